use Rattle.history_log.proofs.EntryLines.{begin_kept, admin_kept}
use Rattle.history_log.proofs.kept_entry.with_line.Goals as goal

pub returns-in-Begin : goal.returns-in-Begin
returns-in-Begin c =
    begin_kept c.args.entry c.in-Begin.session c.in-Begin.k c.in-Begin.method c.in-Begin.params c.in-Begin.seed c.args.line c.in-Begin.is c.requires

pub returns : goal.returns
returns c = admin_kept c.args.entry c.in-Admin.op c.args.line c.in-Admin.is c.requires
