use Rattle.std.proofs.Common.{◌≡◌, ◌++◌}
use Rattle.std.specs.Vec.Iter.{into_iter_items}
use Rattle.live_observer.specs.Answering.{plan_of}
use Rattle.live_observer.proofs.observer.Plan.of.Given as goal

abbrev pub invariant-loop-one : goal.invariant-loop-one
invariant-loop-one l =
    (goal.iterator-loop-one).can_next l.one-iterator × (goal.iterator-loop-one).is_finite l.one-iterator
    × (l.moves.items ++ plan_of (into_iter_items l.one-iterator) ≡ plan_of (into_iter_items l.initial.one-iterator))
