use Rattle.std.proofs.Common.{◌≡◌}
use Rattle.store_thread_tests.proofs.joined.begin_calls.Given as goal

abbrev pub invariant-loop-k : goal.invariant-loop-k
invariant-loop-k g l = l.caller.number ≡ l.fn.caller.number
