use Rattle.std.specs.Prelude.{Option, Result, Ok}
use Rattle.std.proofs.Common.{ap, sym, ◌∙◌}
use Rattle.ejson_value.specs.declared.memory.Mem.{Mem}
use Rattle.shared_store.specs.declared.answers.Placed.{Placed}
use Rattle.server_connection.proofs.Works.{works_learnt, works_grows, was_so, step_grows, stepped_status}
use Rattle.server_connection.proofs.running.step.Goals as goal

pub learn-requires : goal.learn-requires
learn-requires g c =
    was_so g.N.StoreName.app c.args.session.now.session.carried.number c.number.result c.args.k c.step.new.pass c.in-Ok-Some.placed.status (c.requires.number ∙ sym c.number.ensures)
    (stepped_status g.N.StoreName.app c.number.result c.args.k c.step.ensures.before c.args.pass.now c.step.new.pass c.step.result c.in-Ok-Some.placed c.step.ensures.is (c.in-Ok-Some.is ∙ ap (λ (o : Option Placed). let r : Result (Option Placed) Mem = Ok o in r) c.in-Ok-Some.field-0-is))

pub returns-in-Ok-clause-works : goal.returns-in-Ok-clause-works
returns-in-Ok-clause-works g c =
    works_learnt g.N.StoreName.app c.args.caller.now c.args.pass.now c.step.new.pass c.learn.new.pass c.args.session.now c.learn.new.session c.requires
    (step_grows g.N.StoreName.app c.number.result c.args.k c.step.ensures.before c.args.pass.now c.step.new.pass c.step.result c.step.ensures.is) c.learn.ensures.same c.learn.ensures.sees

pub returns-in-Ok-Some-clause-works : goal.returns-in-Ok-Some-clause-works
returns-in-Ok-Some-clause-works g c =
    works_learnt g.N.StoreName.app c.args.caller.now c.args.pass.now c.step.new.pass c.learn.new.pass c.args.session.now c.learn.new.session c.requires
    (step_grows g.N.StoreName.app c.number.result c.args.k c.step.ensures.before c.args.pass.now c.step.new.pass c.step.result c.step.ensures.is) c.learn.ensures.same c.learn.ensures.sees

pub returns-in-Ok-None-clause-works : goal.returns-in-Ok-None-clause-works
returns-in-Ok-None-clause-works g c =
    works_grows g.N.StoreName.app c.args.caller.now c.args.pass.now c.step.new.pass c.args.session.now c.requires (step_grows g.N.StoreName.app c.number.result c.args.k c.step.ensures.before c.args.pass.now c.step.new.pass c.step.result c.step.ensures.is)

pub returns-clause-works : goal.returns-clause-works
returns-clause-works g c =
    works_grows g.N.StoreName.app c.args.caller.now c.args.pass.now c.step.new.pass c.args.session.now c.requires (step_grows g.N.StoreName.app c.number.result c.args.k c.step.ensures.before c.args.pass.now c.step.new.pass c.step.result c.step.ensures.is)
