use Rattle.std.proofs.Common.{List, ap, sym, subst, ◌∙◌}
use Rattle.merge_model.specs.Kept.{kept_at}
use Rattle.ejson_value.specs.declared.key.Key.{Key}
use Rattle.ejson_value.specs.Key.{key_cmp}
use Rattle.kept_document.specs.Held.{SameDoc}
use Rattle.merge_box.specs.declared.plan.Planned.{Planned}
use Rattle.merge_box.specs.Index.{lists_of}
use Rattle.merge_box.specs.Inside.{changes_of, docs_of, carried_out, after_at, IsInside, AreNamed}
use Rattle.merge_box.proofs.MakePlan.{carried_is, inside_settled}
use Rattle.merge_box.proofs.boxes.MergeBox.commit.Goals as goal

pub returns-clause-kept : goal.returns-clause-kept
returns-clause-kept c =
    let kept = c.self.inside.kept in
    let new = c.take_all-listed.new.kept.docs in
    let Same : List Planned → Type 0 = λ plan. (k : Key) → SameDoc (after_at (changes_of kept.keys plan) kept.docs k) (kept_at key_cmp new k) in
    carried_is kept.docs (changes_of kept.keys c.self.inside.changes.items) (lists_of c.self.inside.index.entries) c.self.invariant.0 new c.len-len.ensures.by_key c.take_all-listed.ensures.held
    (subst Same (ap (λ m. m.items) c.replace-changes.ensures.value) c.take_all-listed.ensures.same)
    ∙ ap (λ b. b.planned) c.self.view_is

pub returns-clause-planned : goal.returns-clause-planned
returns-clause-planned c =
    let new = c.take_all-listed.new.kept in
    ap (λ (plan : List Planned). docs_of (carried_out (changes_of new.keys plan) new.docs)) (ap (λ m. m.items) c.replace-changes.ensures.after ∙ c.new.ensures.items)

pub invariant_of-self : goal.invariant_of-self
invariant_of-self c =
    let new = c.take_all-listed.new.kept in
    let lists = lists_of c.forget_unlisted.new.index.entries in
    let nothing = ap (λ m. m.items) c.replace-changes.ensures.after ∙ c.new.ensures.items in (
      subst (λ (plan : List Planned). IsInside new.docs (changes_of new.keys plan) lists) (sym nothing)
          (inside_settled new.docs lists c.len-len.ensures.by_key c.take_all-listed.ensures.held (λ k s there. c.forget_unlisted.ensures s k ∙ c.take_all-listed.ensures.listed k s there)),
      subst (λ (plan : List Planned). AreNamed new.keys plan) (sym nothing) tt,
      c.take_all-listed.ensures.count,
    )
