use Rattle.std.proofs.Common.{sym, ◌∙◌}
use Rattle.connection.proofs.Stores.{step_idle}
use Rattle.connection.proofs.connection.Connection.step.Goals as goal

pub returns-in-None : goal.returns-in-None
returns-in-None c = rw (← c.self.view_is) (step_idle c.self.inside.side c.self.invariant c.args.machine.now c.step.new.self c.args.k c.in_ok-status.ensures.ok (sym c.in-None.is ∙ c.in_ok-status.ensures.status))
