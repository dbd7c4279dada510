use Rattle.server_connection.proofs.Works.{served_grows, works_grows}
use Rattle.server_connection.proofs.showing.load_all.Goals as goal

pub load_those-requires-clause-served : goal.load_those-requires-clause-served
load_those-requires-clause-served g c = served_grows g.N.StoreName.app c.args.caller.now c.args.pass.now c.snapshot.new.pass c.args.session.now c.requires c.snapshot.ensures.shown.seen

pub returns-in-Err-clause-works : goal.returns-in-Err-clause-works
returns-in-Err-clause-works g c = works_grows g.N.StoreName.app c.args.caller.now c.args.pass.now c.snapshot.new.pass c.args.session.now c.requires c.snapshot.ensures.shown.seen
