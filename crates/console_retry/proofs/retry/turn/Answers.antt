use Rattle.std.proofs.Common.{ap}
use Rattle.revived_client.specs.State.{RevivedState}
use Rattle.console_retry.specs.Retries.{moment}
use Rattle.console_retry.proofs.Retrying.{lost_ok, lost_err, ended_there, ended_short, gone_on}
use Rattle.console_retry.proofs.retry.turn.Goals as goal

pub returns-then-not-may_go_on-clause-turns : goal.returns-then-not-may_go_on-clause-turns
returns-then-not-may_go_on-clause-turns g c =
    ended_there g.N.Link.Link.steps g.N.Link.Link.faults c.args.script.now c.args.tries
    (moment c.args.client.now c.args.line.now (g.O.Sink.written c.args.output.now) (g.N.Network.given c.args.net.now) (g.N.Network.faults c.args.net.now))
    (moment c.next_leg.new.client c.next_leg.new.line (g.O.Sink.written c.next_leg.new.output) (g.N.Network.given c.next_leg.new.net) (g.N.Network.faults c.next_leg.new.net))
    c.in-Ok.end c.in-Ok.ensures.tried (c.may_go_on.ensures.no c.if-not-may_go_on.true)

pub returns-in-Ok-lost-clause-turns : goal.returns-in-Ok-lost-clause-turns
returns-in-Ok-lost-clause-turns g c =
    let may = c.may_go_on.ensures.yes c.if-not-may_go_on.false in
    gone_on g.N.Link.Link.steps g.N.Link.Link.faults c.args.script.now c.args.tries
    (moment c.args.client.now c.args.line.now (g.O.Sink.written c.args.output.now) (g.N.Network.given c.args.net.now) (g.N.Network.faults c.args.net.now))
    (moment c.next_leg.new.client c.next_leg.new.line (g.O.Sink.written c.next_leg.new.output) (g.N.Network.given c.next_leg.new.net) (g.N.Network.faults c.next_leg.new.net))
    (moment c.lost.new.self c.next_leg.new.line (g.O.Sink.written c.next_leg.new.output) (g.N.Network.given c.next_leg.new.net) (g.N.Network.faults c.next_leg.new.net))
    c.in-Ok.end c.in-Ok.ensures.tried may.0 may.1
    (ap (λ (s : RevivedState). moment s c.next_leg.new.line (g.O.Sink.written c.next_leg.new.output) (g.N.Network.given c.next_leg.new.net) (g.N.Network.faults c.next_leg.new.net))
    (lost_ok c.next_leg.new.client c.lost.new.self c.in-Ok-lost.field-0 c.in-Ok-lost.ensures))

pub returns-in-Err-clause-turns : goal.returns-in-Err-clause-turns
returns-in-Err-clause-turns g c =
    let may = c.may_go_on.ensures.yes c.if-not-may_go_on.false in
    ended_short g.N.Link.Link.steps g.N.Link.Link.faults c.args.script.now c.args.tries
    (moment c.args.client.now c.args.line.now (g.O.Sink.written c.args.output.now) (g.N.Network.given c.args.net.now) (g.N.Network.faults c.args.net.now))
    (moment c.next_leg.new.client c.next_leg.new.line (g.O.Sink.written c.next_leg.new.output) (g.N.Network.given c.next_leg.new.net) (g.N.Network.faults c.next_leg.new.net))
    (moment c.lost.new.self c.next_leg.new.line (g.O.Sink.written c.next_leg.new.output) (g.N.Network.given c.next_leg.new.net) (g.N.Network.faults c.next_leg.new.net))
    c.in-Ok.end c.in-Ok.ensures.tried may.0 may.1
    (ap (λ (s : RevivedState). moment s c.next_leg.new.line (g.O.Sink.written c.next_leg.new.output) (g.N.Network.given c.next_leg.new.net) (g.N.Network.faults c.next_leg.new.net))
    (lost_err c.next_leg.new.client c.lost.new.self c.in-Err.field-0 c.in-Err.ensures))
