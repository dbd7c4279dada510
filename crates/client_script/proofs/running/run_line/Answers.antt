use Rattle.std.proofs.Common.{sym, ◌∙◌}
use Rattle.client_script.proofs.LinesRun.{shows}
use Rattle.client_script.proofs.running.run_line.Goals as goal

pub returns-in-Ok-show-clause-runs : goal.returns-in-Ok-show-clause-runs
returns-in-Ok-show-clause-runs g c =
    shows g.S.Speaker.look g.S.Speaker.does c.args.speaker.now c.args.line.now (g.O.Sink.written c.args.output.now) (g.O.Sink.written c.show.new.output) c.in-Show.is (sym c.connected.ensures ∙ c.if-not-connected.false) c.in-Ok-show.ensures.prints
