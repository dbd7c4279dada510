use Rattle.std.proofs.Common.{◌≡◌, vec_len}
use Rattle.live_observer.specs.Observing.{IsPlanOf, carried}
use Rattle.live_observer.proofs.observer.commit_all.Given as goal

abbrev pub invariant-loop-last : goal.invariant-loop-last
invariant-loop-last l = IsPlanOf l.watched.items l.moves.items × (carried l.watched.items l.moves.items ≡ carried l.initial.watched.items l.initial.moves.items)

abbrev pub decreases-loop-last : goal.decreases-loop-last
decreases-loop-last l = vec_len l.moves
