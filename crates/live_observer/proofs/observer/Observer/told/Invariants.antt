use Rattle.std.proofs.Common.{◌+◌, ◌*◌, ◌≤◌, length, take}
use Rattle.live_observer.specs.Answering.{AreToldBy}
use Rattle.live_observer.proofs.observer.Observer.told.Given as goal

abbrev pub invariant-loop-one : goal.invariant-loop-one
invariant-loop-one g l =
    AreToldBy (take l.one-index l.one-items) l.changes l.told.items
    × (l.initial.steps ≤ l.steps) × (l.steps ≤ l.initial.steps + l.one-index * (2 * length l.changes))
