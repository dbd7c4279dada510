use Rattle.std.proofs.Common.{◌≡◌, ◌∷◌, [], ◌++◌, ℕ, Bool, true, false, not, List, Option, None, Some, refl, sym, ap, ap₂, subst, ◌∙◌, true≢false}
use Rattle.std.specs.List.Sorted.{IsStrictlySortedBy}
use Rattle.std.specs.Map.{keys_of}
use Rattle.std.proofs.lemmas.Slice.Eq.{bytes_eq-Decides}
use Rattle.map_model.specs.Maps.{IsSorted, filter_map_entries}
use Rattle.value_model.specs.Val.{Val, Entries}
use Rattle.value_model.specs.Order.{text_cmp}
use Rattle.ejson_value.specs.declared.value.Value.{Value}
use Rattle.ejson_value.specs.Entries.{keys_of-entries}
use Rattle.ejson_value.specs.Key.{name_order}
use Rattle.ejson_value.specs.View.{view, entries}
use Rattle.kept_document.specs.Claims.{Name}
use Rattle.kept_document.specs.Held.{new_of, lost_of}
use Rattle.kept_document.specs.Sides.{Both, side_by_side}
use Rattle.kept_document.proofs.Beside.{both_next, sorted-side_by_side}
use Rattle.kept_document.proofs.Telling.{new_of_both, lost_of_both}
use Rattle.kept_document.proofs.Walks.{walk_put_some, walk_on, walk_end, walk_keys}
use Rattle.kept_document.proofs.differences.changed_values.Goals as goal

not_other : (b : Bool) → false ≡ not b → b ≡ true
not_other true e = refl
not_other false e = absurd (true≢false (sym e))

abbrev Fields : Type 0
Fields = List (List ℕ × Value)

by_name : (fields : Fields) (doc : Entries) → entries fields ≡ doc → IsStrictlySortedBy text_cmp (keys_of fields)
    → IsSorted text_cmp doc
by_name fields doc all ordered =
    subst (IsSorted text_cmp) all (subst (IsStrictlySortedBy text_cmp) (sym (keys_of-entries fields)) ordered)

abbrev fresh : Name → Both Val Val → Option Val
fresh f b = new_of b.0 b.1

abbrev gone : Name → Both Val Val → Option Val
gone f b = lost_of b.0 b.1

-- what is left of both
abbrev beside : Fields → Fields → List (List ℕ × Both Val Val)
beside olds news = side_by_side text_cmp (entries olds) (entries news)

pub loop-name-preserved : goal.loop-name-preserved
loop-name-preserved c =
    let walk = c.loop-name.invariant in
    let before = c.args.before.now in
    let after = c.args.after.now in
    let name = c.in-Some.name.now in
    let was = c.in-Some-next.old_name.now in
    let old = view c.in-Some-next.old.now in
    let value = view c.in-Some.value.now in
    let both : Both Val Val = (Some old, Some value) in
    let olds = c.next-in-Some.new.self in
    let news = c.next.new.self in
    let left = beside c.loop-name.olds c.loop-name.news in
    let rest = beside olds news in
    let all = side_by_side text_cmp before after in
    let sorted : IsSorted text_cmp all = sorted-side_by_side name_order before after
    (by_name c.iter-olds.result before c.iter-olds.ensures.all c.iter-olds.ensures.ordered)
    (by_name c.iter-news.result after c.iter-news.ensures.all c.iter-news.ensures.ordered) in
    let same : was ≡ name = (bytes_eq-Decides was name).0 (not_other _ c.if-ne.ensures) in
    let step : left ≡ (name, both) ∷ rest = ap₂ beside c.in-Some-next.ensures.steps c.in-Some.ensures.steps
    ∙ both_next name_order was name old value (entries olds) (entries news) same in
    let whole : all ≡ walk.done ++ (name, both) ∷ rest = walk.whole ∙ ap (λ l. walk.done ++ l) step in
    record {
      done = walk.done ++ (name, both) ∷ [];
      whole = walk_on all walk.done (name, both) left rest walk.whole step;
      new = c.in_ok-put_new.ensures
          ∙ walk_put_some name_order fresh all walk.done name both rest c.loop-name.fields (new_of both.0 both.1)
          whole walk.new sorted refl;
      lost = sym (walk_keys gone walk.done name both [] None (sym walk.lost) refl);
    }

pub returns-in-None-clause-fields : goal.returns-in-None-clause-fields
returns-in-None-clause-fields c =
    let walk = c.loop-name.invariant in
    let before = c.args.before.now in
    let after = c.args.after.now in
    let left = beside c.loop-name.olds c.loop-name.news in
    let ended : left ≡ [] = ap₂ beside c.in-None.ensures.steps.0 c.in_default.ensures.steps.0 in
    let passed = walk_end (side_by_side text_cmp before after) walk.done left walk.whole ended in
    walk.new ∙ ap (filter_map_entries fresh) passed ∙ new_of_both before after
    (by_name c.iter-olds.result before c.iter-olds.ensures.all c.iter-olds.ensures.ordered)
    (by_name c.iter-news.result after c.iter-news.ensures.all c.iter-news.ensures.ordered)

pub returns-in-None-clause-names : goal.returns-in-None-clause-names
returns-in-None-clause-names c _ =
    let walk = c.loop-name.invariant in
    let before = c.args.before.now in
    let after = c.args.after.now in
    let left = beside c.loop-name.olds c.loop-name.news in
    let ended : left ≡ [] = ap₂ beside c.in-None.ensures.steps.0 c.in_default.ensures.steps.0 in
    let passed = walk_end (side_by_side text_cmp before after) walk.done left walk.whole ended in
    sym (lost_of_both before after
    (by_name c.iter-olds.result before c.iter-olds.ensures.all c.iter-olds.ensures.ordered)
    (by_name c.iter-news.result after c.iter-news.ensures.all c.iter-news.ensures.ordered))
    ∙ ap (λ es. keys_of (filter_map_entries gone es)) (sym passed) ∙ walk.lost
