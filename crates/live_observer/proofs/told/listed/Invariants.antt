use Rattle.std.proofs.Common.{◌≡◌, ◌++◌, map}
use Rattle.live_observer.specs.Answering.{publish_of}
use Rattle.live_observer.proofs.told.listed.Given as goal

abbrev pub invariant-loop-key : goal.invariant-loop-key
invariant-loop-key l =
    (goal.iterator-loop-key).can_next l.key-iterator × (goal.iterator-loop-key).is_finite l.key-iterator
    × (l.list ++ map publish_of l.key-iterator ≡ map publish_of l.initial.key-iterator)
