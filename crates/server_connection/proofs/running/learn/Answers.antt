use Rattle.std.specs.Prelude.{IfErr, Result}
use Rattle.std.proofs.Common.{sym, subst}
use Rattle.server_connection.specs.declared.ended.Ended.{Ended}
use Rattle.server_connection.specs.Looks.{StopsEvent}
use Rattle.server_connection.proofs.Events.{learn_sees, learn_ends}
use Rattle.server_connection.proofs.running.learn.Goals as goal

pub returns-clause-sees : goal.returns-clause-sees
returns-clause-sees g c =
    learn_sees c.args.pass.now c.note-note.result c.note-note.ensures.note c.args.session.now c.learn.new.self c.args.k c.args.status.now c.learn.result c.learn.ensures

pub returns-clause-cause : goal.returns-clause-cause
returns-clause-cause g c =
    subst (λ (r : Result (Unit {0}) Ended). IfErr r (StopsEvent c.learn.new.self.session)) (sym c.done.ensures)
    (learn_ends c.args.k c.args.status.now c.note-note.result c.args.session.now c.learn.new.self c.learn.result c.learn.ensures)
