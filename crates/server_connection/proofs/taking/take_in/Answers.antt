use Rattle.std.specs.Prelude.{Ok, Err, refl, IfErr, Result}
use Rattle.std.proofs.Common.{sym, subst}
use Rattle.shared_session.specs.Held.{StandsFor}
use Rattle.server_connection.specs.declared.ended.Ended.{Ended}
use Rattle.server_connection.specs.Serving.{TakesIn}
use Rattle.server_connection.specs.Looks.{StopsEvent}
use Rattle.server_connection.proofs.Events.{take_stays, take_ends}
use Rattle.server_connection.proofs.Offers.{took, took_not}
use Rattle.server_connection.proofs.taking.take_in.Goals as goal

pub returns-in-Ok-clause-takes : goal.returns-in-Ok-clause-takes
returns-in-Ok-clause-takes g c = subst (λ o. TakesIn StandsFor c.args.text c.args.session.now c.take.new.self o) (sym c.requires) (took c.args.text c.args.session.now c.take.new.self tt c.in-Ok.ensures)

pub returns-in-Ok-clause-stays : goal.returns-in-Ok-clause-stays
returns-in-Ok-clause-stays g c = take_stays c.args.text c.args.session.now c.take.new.self (Ok tt) c.in-Ok.ensures

pub returns-in-Err-clause-takes : goal.returns-in-Err-clause-takes
returns-in-Err-clause-takes g c = took_not c.args.text c.args.session.now c.take.new.self (Err c.in-Err.fault) c.in-Err.ensures c.in-Err.fault refl

pub returns-in-Err-clause-stays : goal.returns-in-Err-clause-stays
returns-in-Err-clause-stays g c = take_stays c.args.text c.args.session.now c.take.new.self (Err c.in-Err.fault) c.in-Err.ensures

pub returns-in-Err-clause-cause : goal.returns-in-Err-clause-cause
returns-in-Err-clause-cause g c =
    subst (λ (r : Result (Unit {0}) Ended). IfErr r (StopsEvent c.take.new.self.session)) (sym c.done.ensures) (take_ends c.args.text c.args.session.now c.take.new.self (Err c.in-Err.fault) c.in-Err.ensures)
