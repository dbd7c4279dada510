use Rattle.std.proofs.Common.{◌≡◌, ◌++◌}
use Rattle.app_model.proofs.maps.copy_map.Given as goal

abbrev pub invariant-loop-name : goal.invariant-loop-name
invariant-loop-name g l =
    (goal.iterator-loop-name g).can_next l.name-iterator × (goal.iterator-loop-name g).is_finite l.name-iterator ×
    (l.initial.name-iterator ≡ l.copies.entries ++ l.name-iterator)
