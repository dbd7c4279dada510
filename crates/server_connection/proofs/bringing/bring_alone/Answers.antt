use Rattle.server_connection.proofs.Works.{served_grows, works_grows}
use Rattle.server_connection.proofs.bringing.bring_alone.Goals as goal

pub bring_those_alone-requires-clause-served : goal.bring_those_alone-requires-clause-served
bring_those_alone-requires-clause-served g c =
    served_grows g.N.StoreName.app c.args.caller.now c.args.pass.now c.batch.new.pass c.args.session.now c.requires.served c.batch.ensures.shown.seen

pub returns-in-Ok-None-clause-works : goal.returns-in-Ok-None-clause-works
returns-in-Ok-None-clause-works g c = works_grows g.N.StoreName.app c.args.caller.now c.args.pass.now c.batch.new.pass c.args.session.now c.requires.served c.batch.ensures.shown.seen

pub returns-in-Err-clause-works : goal.returns-in-Err-clause-works
returns-in-Err-clause-works g c = works_grows g.N.StoreName.app c.args.caller.now c.args.pass.now c.batch.new.pass c.args.session.now c.requires.served c.batch.ensures.shown.seen
