use Rattle.std.proofs.Common.{◌≡◌, take}
use Rattle.std.specs.List.{AllByRecursion}
use Rattle.live_observer.specs.Observing.{cursors_of, IsWatching, StandsAt}
use Rattle.live_observer.proofs.observer.watch_all.Given as goal

abbrev pub invariant-loop-cursor : goal.invariant-loop-cursor
invariant-loop-cursor l = (cursors_of l.watched.items ≡ take l.cursor-index l.cursors) × AllByRecursion IsWatching l.watched.items × StandsAt l.watched.items l.all
