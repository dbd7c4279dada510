use Rattle.std.specs.Prelude.{Result, Err}
use Rattle.std.proofs.Common.{ap, ◌∙◌, arith}
use Rattle.server_connection.specs.declared.ended.Ended.{Ended}
use Rattle.server_connection.proofs.Rounds.{new_serving, goes_same, ends}
use Rattle.server_connection.proofs.serving.serve.Goals as goal

pub loop-init : goal.loop-init
loop-init g c = record {
  serving = new_serving g.L.Link.steps g.L.Link.faults c.args.link.now c.args.session.now c.requires.fresh;
  served = c.requires.served;
  goes_on = goes_same c.args.caller.now c.args.pass.now;
}

pub returns-in-Err-clause-serves : goal.returns-in-Err-clause-serves
returns-in-Err-clause-serves g c =
    let first = c.args.link.now in
    let inv = c.loop.invariant in
    let e = c.round.ensures in
    ends g.L.Link.steps g.L.Link.faults first c.round.new.link c.round.new.session c.round.new.desk c.in-Err.end (e.keeps first inv.serving) c.in-Err.ensures.rest
    (λ is. e.closed (c.in-Err.is ∙ ap (λ (x : Ended). let r : Result (Unit {0}) Ended = Err x in r) is) first inv.serving)
    (λ is. let rose = e.fault (c.in-Err.is ∙ ap (λ (x : Ended). let r : Result (Unit {0}) Ended = Err x in r) is) in omega (arith, inv.serving.counts, rose))
