use Rattle.history_model.specs.Lines.{doc_value}
use Rattle.history_log.proofs.Printed.{line_if_printed}
use Rattle.history_log.proofs.lines.doc_line.Goals as goal

pub returns : goal.returns
returns c = line_if_printed (doc_value (c.args.key.now, c.args.doc.now)) _ _ _ c.line_in-out.ensures c.in_ok-put_doc.ensures c.finish_with.ensures
