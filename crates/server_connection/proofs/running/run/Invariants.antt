use Rattle.server_connection.specs.Looks.{Works}
use Rattle.server_connection.proofs.running.run.Given as goal

abbrev pub invariant-loop-k : goal.invariant-loop-k
invariant-loop-k g l = Works g.N.StoreName.app l.fn.caller l.caller l.fn.pass l.pass l.fn.session l.session
