use Rattle.std.proofs.Common.{◌≡◌, None, refl, rules}
use Rattle.client_script.specs.Moving.{link_failed, sink_failed}
use Rattle.client_script.proofs.Stopping.{stands_then_ran}
use Rattle.client_script.proofs.Turning.{stands_none, turned, counts_on}
use Rattle.client_script.proofs.turns.leg.Goals as goal

pub loop-init : goal.loop-init
loop-init g c = record {
  stands = stands_none g.S.Speaker.look g.S.Speaker.does g.L.Link.steps c.args.script.now c.args.line.now c.args.speaker.now c.args.link.now (g.O.Sink.written c.args.output.now) None c.requires.line;
  link = refl;
  sink = refl;
}

pub returns-in-Some-turn-clause-ran : goal.returns-in-Some-turn-clause-ran
returns-in-Some-turn-clause-ran g c =
    stands_then_ran g.S.Speaker.look g.S.Speaker.does g.L.Link.steps c.args.script.now c.args.line.now c.args.speaker.now c.args.link.now (g.O.Sink.written c.args.output.now) None
    c.loop.line c.loop.speaker c.loop.link (g.O.Sink.written c.loop.output) c.loop.kept c.turn.new.line c.turn.new.speaker c.turn.new.link (g.O.Sink.written c.turn.new.output) c.in-Some-turn.end
    c.loop.invariant.stands c.in-Some-turn.ensures.turns

pub loop-preserved : goal.loop-preserved
loop-preserved g c =
    let is : c.turn.result ≡ None = search rules in record {
      stands = turned g.S.Speaker.look g.S.Speaker.does g.L.Link.steps c.args.script.now c.args.line.now c.args.speaker.now c.args.link.now (g.O.Sink.written c.args.output.now) None
          c.loop.line c.loop.speaker c.loop.link (g.O.Sink.written c.loop.output) c.loop.kept c.turn.new.line c.turn.new.speaker c.turn.new.link (g.O.Sink.written c.turn.new.output) c.turn.new.kept c.turn.result
          c.loop.invariant.stands is c.turn.ensures.turns;
      link = counts_on link_failed c.turn.result (g.L.Link.faults c.args.link.now) (g.L.Link.faults c.loop.link) (g.L.Link.faults c.turn.new.link) is refl c.turn.ensures.link c.loop.invariant.link;
      sink = counts_on sink_failed c.turn.result (g.O.Sink.faults c.args.output.now) (g.O.Sink.faults c.loop.output) (g.O.Sink.faults c.turn.new.output) is refl c.turn.ensures.sink c.loop.invariant.sink;
    }
