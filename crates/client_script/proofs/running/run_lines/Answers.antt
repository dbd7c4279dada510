use Rattle.std.proofs.Common.{◌+◌, refl, sym, ◌∙◌}
use Rattle.client_script.proofs.LinesRun.{one_more_run, stop_at}
use Rattle.client_script.proofs.running.run_lines.Goals as goal

pub lines-preserved : goal.lines-preserved
lines-preserved g c = record {
  runs = one_more_run g.S.Speaker.look g.S.Speaker.does c.args.script.now c.args.line.now c.args.speaker.now (g.O.Sink.written c.args.output.now) c.lines.line (c.lines.line + 1) c.lines.speaker (g.O.Sink.written c.lines.output)
      c.in-Some.next.now c.run_line.new.speaker (g.O.Sink.written c.run_line.new.output) c.in-Ok-true.field-0 refl c.in-Ok-true.field-0-test c.lines.invariant.runs (sym c.in-Some.ensures) c.in-Ok-true.ensures.runs;
  faults = c.in-Ok-true.ensures.faults ∙ c.lines.invariant.faults;
}

pub returns-in-Err-clause-runs : goal.returns-in-Err-clause-runs
returns-in-Err-clause-runs g c =
    stop_at g.S.Speaker.look g.S.Speaker.does c.args.script.now c.args.line.now c.args.speaker.now (g.O.Sink.written c.args.output.now) c.lines.line c.lines.speaker (g.O.Sink.written c.lines.output)
    c.in-Some.next.now c.run_line.new.speaker (g.O.Sink.written c.run_line.new.output) c.in-Err.end c.lines.invariant.runs (sym c.in-Some.ensures) c.in-Err.ensures.runs
