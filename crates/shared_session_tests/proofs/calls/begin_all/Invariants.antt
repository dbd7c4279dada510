use Rattle.std.proofs.Common.{◌≡◌}
use Rattle.shared_session_tests.proofs.calls.begin_all.Given as goal

abbrev pub invariant-loop-k : goal.invariant-loop-k
invariant-loop-k g l = l.caller.number ≡ l.fn.caller.number
