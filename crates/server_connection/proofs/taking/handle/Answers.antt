use Rattle.std.specs.Prelude.{IfErr, Result}
use Rattle.std.proofs.Common.{sym, subst}
use Rattle.server_connection.specs.declared.ended.Ended.{Ended}
use Rattle.server_connection.specs.Looks.{StopsEvent}
use Rattle.server_connection.proofs.Events.{handle_stays, handle_ends}
use Rattle.server_connection.proofs.taking.handle.Goals as goal

pub returns-clause-stays : goal.returns-clause-stays
returns-clause-stays g c = handle_stays c.args.session.now c.handle.new.self c.handle.result c.handle.ensures

pub returns-clause-cause : goal.returns-clause-cause
returns-clause-cause g c =
    subst (λ (r : Result (Unit {0}) Ended). IfErr r (StopsEvent c.handle.new.self.session)) (sym c.done.ensures) (handle_ends c.args.session.now c.handle.new.self c.handle.result c.handle.ensures)
