use Rattle.std.specs.Prelude.{Option, Result, Ok}
use Rattle.std.proofs.Common.{ap, ◌∙◌}
use Rattle.ejson_value.specs.declared.memory.Mem.{Mem}
use Rattle.shared_multiplexer.specs.Copied.{ACopy, AreBehind}
use Rattle.server_connection.proofs.Copies.{answered}
use Rattle.server_connection.proofs.Works.{served_grows, works_grows, works_then}
use Rattle.server_connection.proofs.bringing.bring_asked.Goals as goal

pub bring_those-requires-clause-served : goal.bring_those-requires-clause-served
bring_those-requires-clause-served g c =
    served_grows g.N.StoreName.app c.args.caller.now c.args.pass.now c.copied.new.pass c.args.session.now c.requires.served c.copied.ensures.grows

pub bring_those-requires-clause-entries : goal.bring_those-requires-clause-entries
bring_those-requires-clause-entries g c =
    (answered (AreBehind g.N.StoreName.app c.args.from c.args.most c.copied.new.pass) c.copied.result c.in-Ok-Some.entries c.copied.ensures.some
    (c.in-Ok-Some.is ∙ ap (λ (o : Option ACopy). let r : Result (Option ACopy) Mem = Ok o in r) c.in-Ok-Some.field-0-is)).are

pub returns-in-Ok-Some-clause-works : goal.returns-in-Ok-Some-clause-works
returns-in-Ok-Some-clause-works g c =
    let app = g.N.StoreName.app in
    let x = c.args.caller.now in
    let h = c.args.session.now in
    works_then app x x x c.args.pass.now c.copied.new.pass c.bring_those.new.pass h h c.bring_those.new.session
    (works_grows app x c.args.pass.now c.copied.new.pass h c.requires.served c.copied.ensures.grows) c.bring_those.ensures.works

pub returns-in-Ok-None-clause-works : goal.returns-in-Ok-None-clause-works
returns-in-Ok-None-clause-works g c =
    works_grows g.N.StoreName.app c.args.caller.now c.args.pass.now c.copied.new.pass c.args.session.now c.requires.served c.copied.ensures.grows

pub returns-in-Err-clause-works : goal.returns-in-Err-clause-works
returns-in-Err-clause-works g c =
    works_grows g.N.StoreName.app c.args.caller.now c.args.pass.now c.copied.new.pass c.args.session.now c.requires.served c.copied.ensures.grows
