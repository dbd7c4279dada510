use Rattle.server_connection.proofs.Works.{works_same, works_then}
use Rattle.server_connection.proofs.bringing.bring_those_known.Goals as goal

pub loop-place-init : goal.loop-place-init
loop-place-init g c = works_same g.N.StoreName.app c.args.caller.now c.args.pass.now c.args.session.now c.requires.served

pub bring_known_at-requires-clause-served : goal.bring_known_at-requires-clause-served
bring_known_at-requires-clause-served g c = c.loop-place.invariant.served

pub loop-place-preserved : goal.loop-place-preserved
loop-place-preserved g c =
    let x = c.args.caller.now in
    works_then g.N.StoreName.app x x x c.args.pass.now c.loop-place.pass c.bring_known_at.new.pass c.args.session.now c.loop-place.session c.bring_known_at.new.session c.loop-place.invariant c.bring_known_at.ensures.works

pub returns-in_err-went-clause-works : goal.returns-in_err-went-clause-works
returns-in_err-went-clause-works g c =
    let x = c.args.caller.now in
    works_then g.N.StoreName.app x x x c.args.pass.now c.loop-place.pass c.bring_known_at.new.pass c.args.session.now c.loop-place.session c.bring_known_at.new.session c.loop-place.invariant c.bring_known_at.ensures.works
