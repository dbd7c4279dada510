use Rattle.std.proofs.Common.{sym}
use Rattle.ejson_value.proofs.Places.{gap_get}
use Rattle.ejson_value.proofs.row.Row.put_at.Goals as goal

pub returns-in_ok-insert_at-in-Err-clause-value : goal.returns-in_ok-insert_at-in-Err-clause-value
returns-in_ok-insert_at-in-Err-clause-value c = sym (gap_get c.args.member.name c.args.self.now c.in-Err.place (rw c.in-Err.is at c.requires.gap))
