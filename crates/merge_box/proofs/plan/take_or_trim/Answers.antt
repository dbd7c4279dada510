use Rattle.std.proofs.Common.{Bool, true, false, not, ◌≡◌, unwrap_or, sym, subst, refl, true≢false}
use Rattle.merge_model.specs.Kept.{kept_at, nothing_kept}
use Rattle.ejson_value.specs.Key.{key_cmp}
use Rattle.kept_document.specs.Held.{IsHeld, SameDoc}
use Rattle.kept_document.specs.Changes.{with_change}
use Rattle.kept_document.proofs.Places.{gone_same, nothing_held}
use Rattle.merge_box.specs.Slots.{key_in}
use Rattle.merge_box.proofs.plan.take_or_trim.Goals as goal

not_false : (b : Bool) → false ≡ not b → b ≡ true
not_false true e = refl
not_false false e = absurd (true≢false (sym e))

pub returns-else-is_published-clause-taken : goal.returns-else-is_published-clause-taken
returns-else-is_published-clause-taken c =
    let e = with_change (kept_at key_cmp c.args.kept.now.docs (key_in c.args.kept.now.keys c.args.slot)) c.args.change in
    record {
      same = subst (λ x. SameDoc e (unwrap_or x nothing_kept)) (sym c.trim.ensures.gone) (gone_same e c.requires.ready.held (not_false _ c.if-is_published.ensures));
      held = subst (λ x. IsHeld (unwrap_or x nothing_kept)) (sym c.trim.ensures.gone) nothing_held;
      others = c.trim.ensures.others;
      names = c.trim.ensures.names;
    }
