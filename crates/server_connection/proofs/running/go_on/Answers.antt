use Rattle.server_connection.proofs.Works.{works_then}
use Rattle.server_connection.proofs.running.go_on.Goals as goal

pub returns-in-Ok-true-learn_now-clause-works : goal.returns-in-Ok-true-learn_now-clause-works
returns-in-Ok-true-learn_now-clause-works g c =
    let x = c.args.caller.now in
    works_then g.N.StoreName.app x x x c.args.pass.now c.step.new.pass c.learn_now.new.pass c.args.session.now c.step.new.session c.learn_now.new.session c.step.ensures.works c.learn_now.ensures.works

pub returns-in-Ok-false-learn_now-clause-works : goal.returns-in-Ok-false-learn_now-clause-works
returns-in-Ok-false-learn_now-clause-works g c =
    let x = c.args.caller.now in
    let looked = works_then g.N.StoreName.app x x x c.args.pass.now c.step.new.pass c.learn_now.new.pass c.args.session.now c.step.new.session c.learn_now.new.session c.step.ensures.works c.learn_now.ensures.works in
    works_then g.N.StoreName.app x x c.begin.new.caller c.args.pass.now c.learn_now.new.pass c.begin.new.pass c.args.session.now c.learn_now.new.session c.begin.new.session looked c.begin.ensures.works

pub returns-in-Err-learn_now-clause-works : goal.returns-in-Err-learn_now-clause-works
returns-in-Err-learn_now-clause-works g c =
    let x = c.args.caller.now in
    works_then g.N.StoreName.app x x x c.args.pass.now c.step.new.pass c.learn_now.new.pass c.args.session.now c.step.new.session c.learn_now.new.session c.step.ensures.works c.learn_now.ensures.works
