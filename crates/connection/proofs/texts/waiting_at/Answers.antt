use Rattle.session_state.proofs.InPlace.{item_there}
use Rattle.connection.proofs.texts.waiting_at.Goals as goal

pub returns : goal.returns
returns c = item_there c.args.texts.now.items c.args.place c.get.result c.get.ensures.item
