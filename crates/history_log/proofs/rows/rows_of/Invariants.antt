use Rattle.std.proofs.Common.{◌≡◌, ◌++◌}
use Rattle.history_log.specs.Rows.{pairs_in}
use Rattle.history_log.proofs.rows.rows_of.Given as goal

abbrev pub invariant-loop-key : goal.invariant-loop-key
invariant-loop-key l =
    (goal.iterator-loop-key).can_next l.key-iterator × (goal.iterator-loop-key).is_finite l.key-iterator
    × (pairs_in l.rows.items ++ l.key-iterator ≡ l.contents)
