use Rattle.history_model.specs.Lines.{entry_value}
use Rattle.history_log.proofs.Printed.{line_if_printed}
use Rattle.history_log.proofs.lines.entry_line.Goals as goal

pub returns : goal.returns
returns c = line_if_printed (entry_value c.args.entry.now) _ _ _ c.line_in-out.ensures c.in_ok-put_entry.ensures c.finish_with.ensures
