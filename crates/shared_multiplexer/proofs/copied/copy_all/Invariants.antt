use Rattle.std.proofs.Common.{◌≡◌, ◌++◌, drop}
use Rattle.shared_multiplexer.proofs.copied.copy_all.Given as goal

abbrev pub invariant-loop-change : goal.invariant-loop-change
invariant-loop-change l = l.changes ++ drop l.change-index l.more ≡ l.initial.changes ++ l.more
