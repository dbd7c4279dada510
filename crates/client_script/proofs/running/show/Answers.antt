use Rattle.client_script.specs.Course.{written}
use Rattle.io_edge.specs.Whole.{written_before}
use Rattle.client_script.proofs.LinesRun.{cut_short}
use Rattle.client_script.proofs.running.show.Goals as goal

pub returns-clause-prints : goal.returns-clause-prints
returns-clause-prints g c =
    cut_short (g.O.Sink.written c.args.output.now) (g.O.Sink.written c.write_all.new.output) (written_before c.in-Err.field-0) c.as_slice.result.now c.in-Ok.bytes.items (written (g.S.Speaker.look c.args.speaker.now).lines)
    c.as_slice.ensures.value c.in-Ok.ensures c.in-Err.ensures.part
