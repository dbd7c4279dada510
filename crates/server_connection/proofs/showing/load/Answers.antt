use Rattle.std.specs.Prelude.{IfErr, Result}
use Rattle.std.proofs.Common.{sym, subst}
use Rattle.server_connection.specs.declared.ended.Ended.{Ended}
use Rattle.server_connection.specs.Looks.{StopsEvent}
use Rattle.server_connection.proofs.Events.{load_sees, load_ends}
use Rattle.server_connection.proofs.showing.load.Goals as goal

pub returns-clause-sees : goal.returns-clause-sees
returns-clause-sees g c =
    load_sees c.args.pass.now c.note-note.result c.note-note.ensures.note c.args.session.now c.load.new.self c.args.sub c.args.shot.now.at c.args.shot.now.contents c.load.result c.load.ensures

pub returns-clause-cause : goal.returns-clause-cause
returns-clause-cause g c =
    subst (λ (r : Result (Unit {0}) Ended). IfErr r (StopsEvent c.load.new.self.session)) (sym c.done.ensures)
    (load_ends c.args.sub c.args.shot.now.at c.args.shot.now.contents c.note-note.result c.args.session.now c.load.new.self c.load.result c.load.ensures)
