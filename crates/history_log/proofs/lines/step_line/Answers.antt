use Rattle.history_model.specs.declared.entry.Entry.TheVariants.{Step}
use Rattle.history_model.specs.Lines.{entry_value}
use Rattle.history_log.proofs.Printed.{line_if_printed}
use Rattle.history_log.proofs.lines.step_line.Goals as goal

pub returns : goal.returns
returns c = line_if_printed (entry_value (Step c.args.session c.args.k)) _ _ _ c.line_in-out.ensures c.in_ok-put_step.ensures c.finish_with.ensures
