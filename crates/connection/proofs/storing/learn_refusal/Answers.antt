use Rattle.connection.proofs.Stores.{refusal_done}
use Rattle.connection.proofs.storing.learn_refusal.Goals as goal

pub returns-in-Ok-clause-learns : goal.returns-in-Ok-clause-learns
returns-in-Ok-clause-learns c = refusal_done c.args.side.now c.args.k c.args.refusal c.requires.is c.requires.its c.refuse.new.self tt c.in-Ok.ensures
