use Rattle.connection.proofs.Stores.{advance_done}
use Rattle.connection.proofs.storing.advance_by.Goals as goal

pub returns-in-Ok-clause-advances : goal.returns-in-Ok-clause-advances
returns-in-Ok-clause-advances g c = advance_done c.args.side.now c.args.sub c.advance.new.self c.args.batch.now.from c.args.batch.now.count c.args.batch.now.changes tt c.in-Ok.ensures.advances
