use Rattle.std.proofs.Common.{length, ap, ◌∙◌}
use Rattle.store_machine.specs.State.{MachineState}
use Rattle.store_machine.proofs.Machines.{length_seen}
use Rattle.store_machine.proofs.machine.Machine.length.Goals as goal

pub returns : goal.returns
returns c = c.length.ensures ∙ (length_seen c.self.inside.app c.self.inside.parts ∙ ap (λ (m : MachineState). length m.history) c.self.view_is)
