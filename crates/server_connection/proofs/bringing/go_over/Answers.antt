use Rattle.std.specs.Prelude.{IfErr, Result}
use Rattle.std.proofs.Common.{sym, subst}
use Rattle.server_connection.specs.declared.ended.Ended.{Ended}
use Rattle.server_connection.specs.Looks.{StopsEvent}
use Rattle.server_connection.proofs.Events.{advance_sees, advance_ends}
use Rattle.server_connection.proofs.bringing.go_over.Goals as goal

pub returns-clause-sees : goal.returns-clause-sees
returns-clause-sees g c =
    advance_sees c.args.sub c.args.batch.now.from c.args.batch.now.count c.args.batch.now.changes c.note-note.result c.args.session.now c.advance.new.self c.advance.result c.advance.ensures c.args.pass.now c.note-note.ensures.note

pub returns-clause-cause : goal.returns-clause-cause
returns-clause-cause g c =
    subst (λ (r : Result (Unit {0}) Ended). IfErr r (StopsEvent c.advance.new.self.session)) (sym c.done.ensures)
    (advance_ends c.args.sub c.args.batch.now.from c.args.batch.now.count c.args.batch.now.changes c.note-note.result c.args.session.now c.advance.new.self c.advance.result c.advance.ensures)
