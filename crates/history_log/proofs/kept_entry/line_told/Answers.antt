use Rattle.history_model.specs.Lines.{entry_value}
use Rattle.history_log.proofs.ReadBack.{says}
use Rattle.history_log.proofs.kept_entry.line_told.Goals as goal

pub returns-in_ok-entry_line : goal.returns-in_ok-entry_line
returns-in_ok-entry_line c = says (entry_value c.args.entry.now) c.in_ok-entry_line.field-0 (c.may_have_line.ensures c.if-may_have_line.true) c.in_ok-entry_line.ensures
