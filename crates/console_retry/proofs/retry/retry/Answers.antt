use Rattle.std.proofs.Common.{refl, ◌∙◌, ◌<◌, arith}
use Rattle.console_retry.specs.Retries.{moment}
use Rattle.console_retry.proofs.Retrying.{turned, turned-some, turned-within, turned-goes}
use Rattle.console_retry.proofs.retry.retry.Goals as goal

pub links-init : goal.links-init
links-init g c = record {
  back = λ after end ends. ends;
  line = c.requires.line;
  going = c.requires.going;
  sink = refl;
}

pub links-preserved : goal.links-preserved
links-preserved g c =
    let before = moment c.links.client c.links.line (g.O.Sink.written c.links.output) (g.N.Network.given c.links.net) (g.N.Network.faults c.links.net) in
    let mid = moment c.turn.new.client c.turn.new.line (g.O.Sink.written c.turn.new.output) (g.N.Network.given c.turn.new.net) (g.N.Network.faults c.turn.new.net) in
    let turns = c.in-None.ensures.turns in record {
      back = λ after end ends. c.links.invariant.back after end (turned g.N.Link.Link.steps g.N.Link.Link.faults c.args.script.now c.links.left before mid after end turns ends);
      line = turned-within g.N.Link.Link.steps g.N.Link.Link.faults c.args.script.now c.links.left before mid turns;
      going = turned-goes g.N.Link.Link.steps g.N.Link.Link.faults c.args.script.now c.links.left before mid turns;
      sink = c.in-None.ensures.sink ∙ c.links.invariant.sink;
    }

pub overflow_sub-left : goal.overflow_sub-left
overflow_sub-left g c =
    let before = moment c.links.client c.links.line (g.O.Sink.written c.links.output) (g.N.Network.given c.links.net) (g.N.Network.faults c.links.net) in
    let mid = moment c.turn.new.client c.turn.new.line (g.O.Sink.written c.turn.new.output) (g.N.Network.given c.turn.new.net) (g.N.Network.faults c.turn.new.net) in
    let some : 0 < c.links.left = turned-some g.N.Link.Link.steps g.N.Link.Link.faults c.args.script.now c.links.left before mid c.in-None.ensures.turns in
    omega (arith, some)

pub links-smaller : goal.links-smaller
links-smaller g c =
    let before = moment c.links.client c.links.line (g.O.Sink.written c.links.output) (g.N.Network.given c.links.net) (g.N.Network.faults c.links.net) in
    let mid = moment c.turn.new.client c.turn.new.line (g.O.Sink.written c.turn.new.output) (g.N.Network.given c.turn.new.net) (g.N.Network.faults c.turn.new.net) in
    let some : 0 < c.links.left = turned-some g.N.Link.Link.steps g.N.Link.Link.faults c.args.script.now c.links.left before mid c.in-None.ensures.turns in
    omega (arith, some)

pub returns-in-Some-clause-ends : goal.returns-in-Some-clause-ends
returns-in-Some-clause-ends g c =
    let after = moment c.turn.new.client c.turn.new.line (g.O.Sink.written c.turn.new.output) (g.N.Network.given c.turn.new.net) (g.N.Network.faults c.turn.new.net) in
    c.links.invariant.back after c.in-Some.end c.in-Some.ensures.turns
