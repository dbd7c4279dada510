use Rattle.std.proofs.Common.{sym, subst}
use Rattle.connection.specs.world_invariant_laws.Session.{IsServed}
use Rattle.connection.specs.connection_laws.Connection.{AConnection, as_conn}
use Rattle.connection.proofs.connection.Connection.begin.Goals as goal

pub begin_blocking-requires-clause-served : goal.begin_blocking-requires-clause-served
begin_blocking-requires-clause-served c = subst (λ (x : AConnection). IsServed c.args.machine.now.app c.args.machine.now.history (as_conn x)) (sym c.self.view_is) c.requires.served
