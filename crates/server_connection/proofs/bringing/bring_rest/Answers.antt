use Rattle.server_connection.proofs.Works.{works_then}
use Rattle.server_connection.proofs.bringing.bring_rest.Goals as goal

pub bring_alone-requires-clause-served : goal.bring_alone-requires-clause-served
bring_alone-requires-clause-served g c = c.bring_asked.ensures.works.served

pub returns-in-Ok-clause-works : goal.returns-in-Ok-clause-works
returns-in-Ok-clause-works g c =
    let x = c.args.caller.now in
    works_then g.N.StoreName.app x x x c.args.pass.now c.bring_asked.new.pass c.bring_alone.new.pass c.args.session.now c.bring_asked.new.session c.bring_alone.new.session c.bring_asked.ensures.works c.bring_alone.ensures.works
