use Rattle.server_connection.proofs.Works.{works_same}
use Rattle.server_connection.proofs.bringing.bring_known_at.Goals as goal

pub returns-in-None-clause-works : goal.returns-in-None-clause-works
returns-in-None-clause-works g c = works_same g.N.StoreName.app c.args.caller.now c.args.pass.now c.args.session.now c.requires.served
