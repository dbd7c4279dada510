use Rattle.connection.proofs.Stores.{status_done}
use Rattle.connection.proofs.storing.learn_from.Goals as goal

pub returns-in-Ok-clause-learns : goal.returns-in-Ok-clause-learns
returns-in-Ok-clause-learns c = status_done c.args.side.now c.args.k c.requires.free c.args.status.now c.learn.new.self tt c.in-Ok.ensures
