use Rattle.connection.proofs.Stores.{load_done}
use Rattle.connection.proofs.storing.load_from.Goals as goal

pub returns-in-Ok-clause-loads : goal.returns-in-Ok-clause-loads
returns-in-Ok-clause-loads c = load_done c.args.side.now c.args.sub c.args.at c.args.contents.now c.load.new.self tt c.in-Ok.ensures
