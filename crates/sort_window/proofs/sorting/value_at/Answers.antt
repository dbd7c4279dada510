use Rattle.std.proofs.Common.{◌+◌, drop, Option, Some, ap, ◌∙◌, ◌∷◌, sym}
use Rattle.std.specs.Prelude.{option_map}
use Rattle.std.specs.Borrow.{Bor}
use Rattle.ejson_value.specs.declared.value.Value.{Value}
use Rattle.ejson_value.specs.View.{view}
use Rattle.sort_window.specs.Sorting.{reached}
use Rattle.sort_window.proofs.Reaching.{reached_none, next_part}
use Rattle.sort_window.proofs.sorting.value_at.Goals as goal
use Rattle.sort_window.proofs.sorting.value_at.Goals.{in-None, in-Some}

pub loop-part-preserved : goal.loop-part-preserved
loop-part-preserved c =
    let parts = c.args.parts.now in
    let i = c.loop-part.part-index in
    let now = λ (found : Option (Bor Value)). reached (drop i parts) (option_map (λ v. view v.now) found) in
    let next = λ (found : Option (Bor Value)). reached (drop (i + 1) parts) (option_map (λ v. view v.now) found) in
    elim c.match-found.branch [
      | in-None w ↦ ap next w.found-is ∙ reached_none (drop (i + 1) parts) ∙ sym (reached_none (drop i parts)) ∙ ap now (sym w.in-None.is) ∙ c.loop-part.invariant
      | in-Some w ↦
          ap next w.found-is ∙ w.field-found.ensures (drop (i + 1) parts)
          ∙ ap (λ path. reached path (Some (view w.in-Some.value.now))) (ap (λ name. name ∷ drop (i + 1) parts) w.name.ensures ∙ next_part parts i c.part-item.result c.loop-part-test.true c.part-item.is)
          ∙ ap now (sym w.in-Some.is) ∙ c.loop-part.invariant
    ]
