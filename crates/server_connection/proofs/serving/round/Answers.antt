use Rattle.shared_session.specs.Held.{StandsFor}
use Rattle.server_connection.specs.AtRest.{IsAtRest}
use Rattle.server_connection.proofs.Turns.{kept}
use Rattle.server_connection.proofs.Works.{served_stays}
use Rattle.server_connection.proofs.serving.round.Goals as goal

pub returns-in-Err-clause-served : goal.returns-in-Err-clause-served
returns-in-Err-clause-served g c = served_stays g.N.StoreName.app c.args.caller.now c.args.pass.now c.args.session.now c.speak.new.session c.requires c.speak.ensures.stays

pub look-requires : goal.look-requires
look-requires g c = served_stays g.N.StoreName.app c.args.caller.now c.args.pass.now c.args.session.now c.speak.new.session c.requires c.speak.ensures.stays

pub returns-in-Ok-look-clause-served : goal.returns-in-Ok-look-clause-served
returns-in-Ok-look-clause-served g c = served_stays g.N.StoreName.app c.look.new.caller c.look.new.pass c.look.new.session c.listen.new.session c.look.ensures.works.served c.listen.ensures.stays

pub returns-in-Ok-look-clause-keeps : goal.returns-in-Ok-look-clause-keeps
returns-in-Ok-look-clause-keeps g c first m =
    c.listen.ensures.keeps first
    (kept StandsFor IsAtRest g.L.Link.steps g.L.Link.faults c.speak.new.link c.speak.new.session c.look.new.session c.speak.new.desk c.look.ensures.works.keeps first (c.speak.ensures.keeps first m))

pub returns-in-Ok-look-clause-closed : goal.returns-in-Ok-look-clause-closed
returns-in-Ok-look-clause-closed g c is first m =
    c.listen.ensures.closed is first
    (kept StandsFor IsAtRest g.L.Link.steps g.L.Link.faults c.speak.new.link c.speak.new.session c.look.new.session c.speak.new.desk c.look.ensures.works.keeps first (c.speak.ensures.keeps first m))

pub returns-in-Err-look-clause-keeps : goal.returns-in-Err-look-clause-keeps
returns-in-Err-look-clause-keeps g c first m =
    kept StandsFor IsAtRest g.L.Link.steps g.L.Link.faults c.speak.new.link c.speak.new.session c.look.new.session c.speak.new.desk c.look.ensures.works.keeps first (c.speak.ensures.keeps first m)
