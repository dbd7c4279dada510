use Rattle.std.proofs.Common.{◌≡◌, ◌++◌, map}
use Rattle.live_observer.specs.Noting.{all_told}
use Rattle.live_observer.proofs.plain.listed.Given as goal

abbrev pub invariant-loop-id : goal.invariant-loop-id
invariant-loop-id l =
    (goal.iterator-loop-id).can_next l.id-iterator × (goal.iterator-loop-id).is_finite l.id-iterator
    × (map (λ one. (one.id, one.doc)) l.told ++ all_told l.id-iterator ≡ all_told l.initial.id-iterator)
