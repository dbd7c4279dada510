use Rattle.std.proofs.Common.{ap, ◌∙◌}
use Rattle.store_machine.specs.State.{MachineState, held_by}
use Rattle.store_machine.proofs.machine.Machine.contents.Goals as goal

pub returns : goal.returns
returns c = c.contents.ensures ∙ (c.self.invariant.keeps.rows ∙ ap (λ (m : MachineState). (held_by m).rows) c.self.view_is)
