use Rattle.console_run.proofs.Consoling.{consoles, no_console}
use Rattle.console_run.proofs.run.console.Goals as goal

pub returns-in_default-clause-ran : goal.returns-in_default-clause-ran
returns-in_default-clause-ran g c = no_console g.L.Link.steps c.args.app.now c.args.script.now c.args.link.now (g.O.Sink.written c.args.output.now)

pub returns-clause-ran : goal.returns-clause-ran
returns-clause-ran g c =
    consoles g.L.Link.steps c.args.app.now c.args.script.now c.in-Ok.speaker c.args.link.now (g.O.Sink.written c.args.output.now) c.leg.new.line c.leg.new.speaker c.leg.new.link (g.O.Sink.written c.leg.new.output) c.leg.result
    c.in-Ok.ensures c.leg.ensures.ran
