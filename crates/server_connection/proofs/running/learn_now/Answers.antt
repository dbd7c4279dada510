use Rattle.std.specs.Prelude.{Option, Result, Ok}
use Rattle.std.proofs.Common.{ap, sym, ◌∙◌}
use Rattle.ejson_value.specs.declared.memory.Mem.{Mem}
use Rattle.shared_store.specs.declared.answers.Placed.{Placed}
use Rattle.server_connection.proofs.Works.{works_learnt, works_grows, was_so, told_status}
use Rattle.server_connection.proofs.running.learn_now.Goals as goal

pub learn-requires : goal.learn-requires
learn-requires g c =
    was_so g.N.StoreName.app c.args.session.now.session.carried.number c.number.result c.args.k c.status.new.pass c.in-Ok-Some.placed.status (c.requires.number ∙ sym c.number.ensures)
    (told_status g.N.StoreName.app c.number.result c.args.k c.status.new.pass c.status.result c.in-Ok-Some.placed c.status.ensures.tells (c.in-Ok-Some.is ∙ ap (λ (o : Option Placed). let r : Result (Option Placed) Mem = Ok o in r) c.in-Ok-Some.field-0-is))

pub returns-in-Ok-clause-works : goal.returns-in-Ok-clause-works
returns-in-Ok-clause-works g c =
    works_learnt g.N.StoreName.app c.args.caller.now c.args.pass.now c.status.new.pass c.learn.new.pass c.args.session.now c.learn.new.session c.requires c.status.ensures.shown.seen c.learn.ensures.same c.learn.ensures.sees

pub returns-in-Ok-Some-clause-works : goal.returns-in-Ok-Some-clause-works
returns-in-Ok-Some-clause-works g c =
    works_learnt g.N.StoreName.app c.args.caller.now c.args.pass.now c.status.new.pass c.learn.new.pass c.args.session.now c.learn.new.session c.requires c.status.ensures.shown.seen c.learn.ensures.same c.learn.ensures.sees

pub returns-in-Ok-None-clause-works : goal.returns-in-Ok-None-clause-works
returns-in-Ok-None-clause-works g c = works_grows g.N.StoreName.app c.args.caller.now c.args.pass.now c.status.new.pass c.args.session.now c.requires c.status.ensures.shown.seen

pub returns-clause-works : goal.returns-clause-works
returns-clause-works g c = works_grows g.N.StoreName.app c.args.caller.now c.args.pass.now c.status.new.pass c.args.session.now c.requires c.status.ensures.shown.seen
