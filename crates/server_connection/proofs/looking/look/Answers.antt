use Rattle.server_connection.proofs.Works.{works_stays, works_then, served_stays}
use Rattle.server_connection.proofs.looking.look.Goals as goal

pub returns-in_err-handle-clause-works : goal.returns-in_err-handle-clause-works
returns-in_err-handle-clause-works g c = works_stays g.N.StoreName.app c.args.caller.now c.args.pass.now c.args.session.now c.handle.new.session c.requires c.handle.ensures.stays c.handle.ensures.keeps

pub run-requires : goal.run-requires
run-requires g c = served_stays g.N.StoreName.app c.args.caller.now c.args.pass.now c.args.session.now c.handle.new.session c.requires c.handle.ensures.stays

pub returns-in_err-run-clause-works : goal.returns-in_err-run-clause-works
returns-in_err-run-clause-works g c =
    let x = c.args.caller.now in
    let p = c.args.pass.now in
    works_then g.N.StoreName.app x x c.run.new.caller p p c.run.new.pass c.args.session.now c.handle.new.session c.run.new.session
    (works_stays g.N.StoreName.app x p c.args.session.now c.handle.new.session c.requires c.handle.ensures.stays c.handle.ensures.keeps) c.run.ensures.works

pub returns-in_err-show-clause-works : goal.returns-in_err-show-clause-works
returns-in_err-show-clause-works g c =
    let x = c.args.caller.now in
    let y = c.run.new.caller in
    let p = c.args.pass.now in
    let ran = works_then g.N.StoreName.app x x y p p c.run.new.pass c.args.session.now c.handle.new.session c.run.new.session
    (works_stays g.N.StoreName.app x p c.args.session.now c.handle.new.session c.requires c.handle.ensures.stays c.handle.ensures.keeps) c.run.ensures.works in
    works_then g.N.StoreName.app x y y p c.run.new.pass c.show.new.pass c.args.session.now c.run.new.session c.show.new.session ran c.show.ensures.works

pub returns-in_ok-show-clause-works : goal.returns-in_ok-show-clause-works
returns-in_ok-show-clause-works g c =
    let x = c.args.caller.now in
    let y = c.run.new.caller in
    let p = c.args.pass.now in
    let ran = works_then g.N.StoreName.app x x y p p c.run.new.pass c.args.session.now c.handle.new.session c.run.new.session
    (works_stays g.N.StoreName.app x p c.args.session.now c.handle.new.session c.requires c.handle.ensures.stays c.handle.ensures.keeps) c.run.ensures.works in
    works_then g.N.StoreName.app x y y p c.run.new.pass c.show.new.pass c.args.session.now c.run.new.session c.show.new.session ran c.show.ensures.works

pub returns-else-shows-clause-works : goal.returns-else-shows-clause-works
returns-else-shows-clause-works g c =
    let x = c.args.caller.now in
    let p = c.args.pass.now in
    works_then g.N.StoreName.app x x c.run.new.caller p p c.run.new.pass c.args.session.now c.handle.new.session c.run.new.session
    (works_stays g.N.StoreName.app x p c.args.session.now c.handle.new.session c.requires c.handle.ensures.stays c.handle.ensures.keeps) c.run.ensures.works
