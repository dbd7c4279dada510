use Rattle.std.specs.Prelude.{IfErr, Result}
use Rattle.std.proofs.Common.{sym, subst}
use Rattle.server_connection.specs.declared.ended.Ended.{Ended}
use Rattle.server_connection.specs.Looks.{StopsEvent}
use Rattle.server_connection.proofs.Events.{refuse_sees, refuse_ends}
use Rattle.server_connection.proofs.running.refuse.Goals as goal

pub returns-clause-sees : goal.returns-clause-sees
returns-clause-sees g c =
    refuse_sees c.args.pass.now c.note-note.result c.note-note.ensures.note c.args.session.now c.refuse.new.self c.args.k c.len-at.result c.refuse.result c.refuse.ensures

pub returns-clause-cause : goal.returns-clause-cause
returns-clause-cause g c =
    subst (λ (r : Result (Unit {0}) Ended). IfErr r (StopsEvent c.refuse.new.self.session)) (sym c.done.ensures)
    (refuse_ends c.args.k c.len-at.result c.note-note.result c.args.session.now c.refuse.new.self c.refuse.result c.refuse.ensures)
