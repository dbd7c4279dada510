use Rattle.std.proofs.Common.{◌≡◌, ◌+◌}
use Rattle.server_run.proofs.timing.accept_timed.Given as goal

abbrev pub invariant-loop : goal.invariant-loop
invariant-loop g l = (g.W.Network.given l.net ≡ g.W.Network.given l.fn.net + l.counter) × (g.W.Network.faults l.net ≡ g.W.Network.faults l.fn.net)
