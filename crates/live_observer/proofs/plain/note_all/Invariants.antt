use Rattle.std.proofs.Common.{◌≡◌, ◌+◌, ◌*◌, ◌≤◌, drop}
use Rattle.live_observer.specs.Noting.{all_noted}
use Rattle.live_observer.proofs.plain.note_all.Given as goal

abbrev pub invariant-loop-change : goal.invariant-loop-change
invariant-loop-change g l =
    (all_noted l.cursor l.nets.entries (drop l.change-index l.changes) ≡ all_noted l.cursor l.initial.nets.entries l.changes)
    × (l.initial.steps ≤ l.steps) × (l.steps ≤ l.initial.steps + 2 * l.change-index)
