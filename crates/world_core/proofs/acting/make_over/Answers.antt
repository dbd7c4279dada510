use Rattle.std.proofs.Common.{refl}
use Rattle.std.proofs.lemmas.Result.{err_from_is_err_and}
use Rattle.connection.specs.world_model.declared.events.Act.TheVariants as act
use Rattle.world_core.specs.Visit.{visit}
use Rattle.world_core.proofs.Answering.{over, told_over, told_left}
use Rattle.world_core.proofs.acting.make_over.Goals as goal

pub returns-in-Advance : goal.returns-in-Advance
returns-in-Advance c =
    rw c.in-Advance.is
    (over (visit c.args.machine.now c.args.connection.now c.args.news.now) c.requires.ready (act.Advance c.in-Advance.sub c.in-Advance.count) c.advance.new.connection refl c.advance.new.news c.advance.ensures.keeps c.advance.result c.advance.ensures.advances)

pub returns-in_ok-act_over-in_default : goal.returns-in_ok-act_over-in_default
returns-in_ok-act_over-in_default c =
    let v = visit c.args.machine.now c.args.connection.now c.args.news.now in
    told_over v c.requires.ready c.args.act c.act_over.new.self c.in_ok-act_over-in_default.field-0 c.in_ok-act_over-in_default.ensures

pub returns-in_err-act_over-in_default : goal.returns-in_err-act_over-in_default
returns-in_err-act_over-in_default c =
    let v = visit c.args.machine.now c.args.connection.now c.args.news.now in
    let p = err_from_is_err_and c.from_residual.result c.from_residual.ensures.1 in
    rw p.1 (told_left v c.requires.ready c.args.act c.act_over.new.self _ c.in_err-act_over-in_default.ensures)
