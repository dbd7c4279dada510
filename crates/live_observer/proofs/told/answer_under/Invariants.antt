use Rattle.std.proofs.Common.{◌≡◌, ◌++◌, drop, map}
use Rattle.live_observer.specs.Answering.{publish_at}
use Rattle.live_observer.proofs.told.answer_under.Given as goal

abbrev pub invariant-loop-one : goal.invariant-loop-one
invariant-loop-one l = l.list ++ map (publish_at l.name) (drop l.one-index l.shown) ≡ map (publish_at l.name) l.shown
