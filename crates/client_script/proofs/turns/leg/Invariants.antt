use Rattle.std.proofs.Common.{◌≡◌, None}
use Rattle.client_script.specs.Moving.{Stands}
use Rattle.client_script.proofs.turns.leg.Given as goal

abbrev pub invariant-loop : goal.invariant-loop
invariant-loop g l = record {
  stands : Stands g.S.Speaker.look g.S.Speaker.does g.L.Link.steps l.script l.fn.line l.fn.speaker l.fn.link (g.O.Sink.written l.fn.output) None
      l.line l.speaker l.link (g.O.Sink.written l.output) l.kept;
  link : g.L.Link.faults l.link ≡ g.L.Link.faults l.fn.link;
  sink : g.O.Sink.faults l.output ≡ g.O.Sink.faults l.fn.output;
}
