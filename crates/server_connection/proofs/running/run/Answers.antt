use Rattle.server_connection.proofs.Works.{works_then}
use Rattle.server_connection.proofs.running.run.Goals as goal

pub returns-in_err-go_on-clause-works : goal.returns-in_err-go_on-clause-works
returns-in_err-go_on-clause-works g c =
    works_then g.N.StoreName.app c.args.caller.now c.loop-k.caller c.go_on.new.caller c.args.pass.now c.loop-k.pass c.go_on.new.pass c.args.session.now c.loop-k.session c.go_on.new.session c.loop-k.invariant c.go_on.ensures.works

pub loop-k-preserved : goal.loop-k-preserved
loop-k-preserved g c =
    works_then g.N.StoreName.app c.args.caller.now c.loop-k.caller c.go_on.new.caller c.args.pass.now c.loop-k.pass c.go_on.new.pass c.args.session.now c.loop-k.session c.go_on.new.session c.loop-k.invariant c.go_on.ensures.works
