use Rattle.std.proofs.Common.{sym}
use Rattle.ejson_value.proofs.Places.{got, gap_get}
use Rattle.ejson_value.proofs.row.Row.get.Goals as goal

pub returns-in-Ok : goal.returns-in-Ok
returns-in-Ok c =
    let is = rw (← c.self.view_is) at c.in-Ok.ensures.found in
    rw (← c.self.view_is) (sym (got c.args.name.now c.self.inside.members.items c.in-Ok.place c.index.result.now c.self.invariant.names is c.index.ensures))

pub returns-in-Err : goal.returns-in-Err
returns-in-Err c = sym (gap_get c.args.name.now c.args.self.now c.in-Err.field-0 c.in-Err.ensures.gap)
