use Rattle.std.proofs.Common.{◌≡◌}
use Rattle.live_observer.specs.Noting.{put_rows}
use Rattle.live_observer.proofs.window.put_rows.Given as goal

abbrev pub invariant-loop-key : goal.invariant-loop-key
invariant-loop-key l =
    (goal.iterator-loop-key).can_next l.key-iterator × (goal.iterator-loop-key).is_finite l.key-iterator
    × (put_rows l.cursor l.news l.key-iterator ≡ put_rows l.cursor l.initial.news l.initial.key-iterator)
