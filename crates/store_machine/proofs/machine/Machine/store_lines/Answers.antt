use Rattle.std.specs.Prelude.{IfOk}
use Rattle.std.proofs.Common.{◌≡◌, ap, ap₂, length, subst, ◌∙◌}
use Rattle.history_model.specs.Lines.{store_lines}
use Rattle.store_machine.specs.State.{MachineState}
use Rattle.store_machine.proofs.Machines.{length_seen}
use Rattle.store_machine.proofs.machine.Machine.store_lines.Goals as goal

pub returns : goal.returns
returns c =
    let counts = length_seen c.self.inside.app c.self.inside.parts ∙ ap (λ (m : MachineState). length m.history) c.self.view_is in
    subst (λ ls. IfOk c.store_lines.result (λ lines. lines ≡ ls)) (ap₂ store_lines counts c.contents.ensures) c.store_lines.ensures
