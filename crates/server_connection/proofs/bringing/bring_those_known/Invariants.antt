use Rattle.server_connection.specs.Looks.{Works}
use Rattle.server_connection.proofs.bringing.bring_those_known.Given as goal

abbrev pub invariant-loop-place : goal.invariant-loop-place
invariant-loop-place g l = Works g.N.StoreName.app l.fn.caller l.fn.caller l.fn.pass l.pass l.fn.session l.session
