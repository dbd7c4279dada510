use Rattle.std.proofs.Common.{subst}
use Rattle.store_machine.specs.State.{MachineState, IsLastBegun}
use Rattle.store_machine.proofs.machine.Machine.last_begun.Goals as goal

pub returns : goal.returns
returns c = subst (λ (m : MachineState). IsLastBegun m c.args.session c.last_begun.result) c.self.view_is c.last_begun.ensures
