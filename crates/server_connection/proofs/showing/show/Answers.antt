use Rattle.server_connection.proofs.Works.{works_then}
use Rattle.server_connection.proofs.showing.show.Goals as goal

pub returns-in-Ok-clause-works : goal.returns-in-Ok-clause-works
returns-in-Ok-clause-works g c =
    let x = c.args.caller.now in
    works_then g.N.StoreName.app x x x c.args.pass.now c.load_all.new.pass c.bring_all.new.pass c.args.session.now c.load_all.new.session c.bring_all.new.session c.load_all.ensures.works c.bring_all.ensures.works
