use Rattle.std.proofs.Common.{◌≡◌, ◌-◌}
use Rattle.client_script.specs.Moving.{RunsLines}
use Rattle.client_script.proofs.running.run_lines.Given as goal

abbrev pub invariant-lines : goal.invariant-lines
invariant-lines g l = record {
  runs : RunsLines g.S.Speaker.look g.S.Speaker.does l.script l.fn.line l.fn.speaker (g.O.Sink.written l.fn.output) l.line l.speaker (g.O.Sink.written l.output);
  faults : g.O.Sink.faults l.output ≡ g.O.Sink.faults l.fn.output;
}

abbrev pub decreases-lines : goal.decreases-lines
decreases-lines g l = l.count - l.line
