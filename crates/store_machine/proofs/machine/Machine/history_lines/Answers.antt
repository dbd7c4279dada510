use Rattle.std.specs.Prelude.{IfOk}
use Rattle.std.proofs.Common.{◌≡◌, ap, subst}
use Rattle.history_model.specs.Lines.{history_lines}
use Rattle.store_machine.specs.State.{MachineState}
use Rattle.store_machine.proofs.machine.Machine.history_lines.Goals as goal

pub returns : goal.returns
returns c = subst (λ ls. IfOk c.history_lines.result (λ lines. lines ≡ ls)) (ap (λ (m : MachineState). history_lines m.history) c.self.view_is) c.history_lines.ensures
