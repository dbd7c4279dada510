use Rattle.std.proofs.Common.{◌≡◌, ◌∷◌}
use Rattle.modifier_apply.specs.Neighbours.{begins_next}
use Rattle.modifier_apply.proofs.conflicts.one_begins_next.Given as goal

abbrev pub invariant-loop-next : goal.invariant-loop-next
invariant-loop-next l =
    (goal.iterator-loop-next).can_next l.next-iterator × (goal.iterator-loop-next).is_finite l.next-iterator ×
    (begins_next (l.path ∷ l.next-iterator) ≡ begins_next l.paths.keys)
