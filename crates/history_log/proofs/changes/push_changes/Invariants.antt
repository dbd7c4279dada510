use Rattle.std.proofs.Common.{◌≡◌, ◌++◌, drop}
use Rattle.history_log.proofs.changes.push_changes.Given as goal

abbrev pub invariant-loop-change : goal.invariant-loop-change
invariant-loop-change l = l.all ++ drop l.change-index l.change-items ≡ l.initial.all ++ l.change-items
