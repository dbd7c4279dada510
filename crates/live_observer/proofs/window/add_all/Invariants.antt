use Rattle.std.proofs.Common.{◌≡◌, ◌+◌, ◌≤◌, drop}
use Rattle.live_observer.specs.Noting.{all_news}
use Rattle.live_observer.proofs.window.add_all.Given as goal

abbrev pub invariant-loop-change : goal.invariant-loop-change
invariant-loop-change g l =
    (all_news l.cursor l.news (drop l.change-index l.changes) ≡ all_news l.cursor l.initial.news l.changes)
    × (l.initial.steps ≤ l.steps) × (l.steps ≤ l.initial.steps + l.change-index)
