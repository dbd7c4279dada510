use Rattle.std.proofs.Common.{sym}
use Rattle.ejson_value.proofs.Places.{gap_get}
use Rattle.ejson_value.proofs.PutAll.{nothing}
use Rattle.ejson_value.proofs.row.Row.replace.Goals as goal

pub returns-in-Err-clause-value : goal.returns-in-Err-clause-value
returns-in-Err-clause-value c = absurd (nothing _ (sym (gap_get c.args.member.name c.args.self.now c.in-Err.field-0 c.in-Err.ensures.gap)) c.requires)

pub returns-in-Err-clause-put : goal.returns-in-Err-clause-put
returns-in-Err-clause-put c = absurd (nothing _ (sym (gap_get c.args.member.name c.args.self.now c.in-Err.field-0 c.in-Err.ensures.gap)) c.requires)
