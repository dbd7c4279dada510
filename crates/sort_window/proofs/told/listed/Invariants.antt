use Rattle.std.proofs.Common.{◌≡◌, ◌++◌, map}
use Rattle.sort_window.proofs.told.listed.Given as goal

abbrev pub invariant-loop-id : goal.invariant-loop-id
invariant-loop-id l =
    (goal.iterator-loop-id).can_next l.id-iterator × (goal.iterator-loop-id).is_finite l.id-iterator
    × (map (λ one. (one.id, one.doc)) l.shown ++ l.id-iterator ≡ l.initial.id-iterator)
