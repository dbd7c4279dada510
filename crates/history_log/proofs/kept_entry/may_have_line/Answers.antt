use Rattle.std.proofs.Common.{sym, subst}
use Rattle.history_model.specs.declared.entry.Entry.{Entry}
use Rattle.history_log.specs.Entries.{IsReadBack}
use Rattle.history_model.specs.Lines.{entry_value}
use Rattle.history_log.proofs.kept_entry.may_have_line.Goals as goal

pub returns-in-Begin : goal.returns-in-Begin
returns-in-Begin c told = subst (λ (e : Entry). IsReadBack (entry_value e)) (sym c.in-Begin.is) (c.may_tell_call.ensures told c.in-Begin.session c.in-Begin.method)
