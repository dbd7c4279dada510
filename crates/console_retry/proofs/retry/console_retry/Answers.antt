use Rattle.console_retry.specs.Retries.{outside}
use Rattle.console_retry.proofs.Retrying.{retried, unretried}
use Rattle.console_retry.proofs.retry.console_retry.Goals as goal

pub returns-in_default-clause-retries : goal.returns-in_default-clause-retries
returns-in_default-clause-retries g c =
    unretried g.N.Link.Link.steps g.N.Link.Link.faults c.args.script.now c.args.app.now c.args.tries
    (outside (g.O.Sink.written c.args.output.now) (g.N.Network.given c.args.net.now) (g.N.Network.faults c.args.net.now))

pub returns-clause-retries : goal.returns-clause-retries
returns-clause-retries g c =
    retried g.N.Link.Link.steps g.N.Link.Link.faults c.args.script.now c.args.app.now c.args.tries
    (outside (g.O.Sink.written c.args.output.now) (g.N.Network.given c.args.net.now) (g.N.Network.faults c.args.net.now))
    (outside (g.O.Sink.written c.retry.new.output) (g.N.Network.given c.retry.new.net) (g.N.Network.faults c.retry.new.net))
    c.in-Ok.client c.retry.new.client c.retry.new.line c.retry.result c.in-Ok.ensures c.retry.ensures.ends
