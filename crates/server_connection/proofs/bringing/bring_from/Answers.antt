use Rattle.server_connection.proofs.Works.{works_then}
use Rattle.server_connection.proofs.bringing.bring_from.Goals as goal

pub bring_rest-requires-clause-served : goal.bring_rest-requires-clause-served
bring_rest-requires-clause-served g c = c.bring_those_known.ensures.works.served

pub returns-in-Ok-false-clause-works : goal.returns-in-Ok-false-clause-works
returns-in-Ok-false-clause-works g c =
    let x = c.args.caller.now in
    works_then g.N.StoreName.app x x x c.args.pass.now c.bring_those_known.new.pass c.bring_rest.new.pass c.args.session.now c.bring_those_known.new.session c.bring_rest.new.session
    c.bring_those_known.ensures.works c.bring_rest.ensures.works
