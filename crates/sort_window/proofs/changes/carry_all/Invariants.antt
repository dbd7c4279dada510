use Rattle.std.proofs.Common.{◌≡◌, ◌+◌, ◌≤◌, length, vec_len, vec_capacity}
use Rattle.std.specs.Vec.Iter.{into_iter_items}
use Rattle.map_model.specs.Changes.{changed, Fit}
use Rattle.value_model.specs.Order.{text_cmp}
use Rattle.sort_window.specs.Inside.{IsInside}
use Rattle.sort_window.proofs.changes.carry_all.Given as goal

abbrev pub invariant-loop-change : goal.invariant-loop-change
invariant-loop-change l =
    (goal.iterator-loop-change).can_next l.change-iterator × (goal.iterator-loop-change).is_finite l.change-iterator
    × IsInside l.sort l.by_id.items l.in_order.items
    × Fit text_cmp l.by_id.items (into_iter_items l.change-iterator)
    × (vec_len l.by_id + length (into_iter_items l.change-iterator) ≤ vec_capacity l.by_id)
    × (vec_len l.in_order + length (into_iter_items l.change-iterator) ≤ vec_capacity l.in_order)
    × (changed text_cmp l.by_id.items (into_iter_items l.change-iterator) ≡ changed text_cmp l.initial.by_id.items (into_iter_items l.initial.change-iterator))
