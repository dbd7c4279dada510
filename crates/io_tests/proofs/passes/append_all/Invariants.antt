use Rattle.std.proofs.Common.{◌≡◌, length}
use Rattle.io_tests.proofs.passes.append_all.Given as goal

abbrev pub invariant-loop-entry : goal.invariant-loop-entry
invariant-loop-entry g l = length l.writer ≡ l.entry-counter
