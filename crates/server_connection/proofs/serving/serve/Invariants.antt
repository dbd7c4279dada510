use Rattle.shared_session.specs.Held.{StandsFor}
use Rattle.server_connection.specs.Serving.{Serving}
use Rattle.server_connection.specs.AtRest.{IsAtRest}
use Rattle.server_connection.specs.Looks.{IsServed}
use Rattle.server_connection.specs.Ends.{GoesOn}
use Rattle.server_connection.proofs.serving.serve.Given as goal

abbrev pub invariant-loop : goal.invariant-loop
invariant-loop g l = record {
  serving : Serving StandsFor IsAtRest g.L.Link.steps g.L.Link.faults l.fn.link l.link l.session l.desk;
  served : IsServed g.N.StoreName.app l.caller l.pass l.session;
  goes_on : GoesOn l.fn.caller l.caller l.fn.pass l.pass;
}
