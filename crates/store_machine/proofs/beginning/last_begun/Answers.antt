use Rattle.store_machine.proofs.Lasts.{last_of_all}
use Rattle.store_machine.proofs.beginning.last_begun.Goals as goal

pub returns : goal.returns
returns c = last_of_all c.args.app.now c.args.parts.now c.args.session c.last_among.result c.requires c.last_among.ensures c.none_beyond.ensures
