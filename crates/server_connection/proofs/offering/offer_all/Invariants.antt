use Rattle.std.specs.Prelude.{◌≤◌}
use Rattle.shared_session.specs.Held.{StandsFor}
use Rattle.server_connection.specs.Serving.{Keeps}
use Rattle.server_connection.specs.AtRest.{IsAtRest}
use Rattle.server_connection.specs.Looks.{Stays}
use Rattle.server_connection.proofs.offering.offer_all.Given as goal

abbrev pub invariant-loop : goal.invariant-loop
invariant-loop g l = record {
  keeps : Keeps StandsFor IsAtRest g.L.Link.steps g.L.Link.faults l.fn.link l.fn.session l.fn.desk l.link l.session l.desk;
  stays : Stays l.fn.session l.session;
  grows : g.L.Link.faults l.fn.link ≤ g.L.Link.faults l.link;
}
