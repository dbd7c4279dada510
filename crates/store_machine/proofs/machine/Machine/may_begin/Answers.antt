use Rattle.std.specs.Prelude.{is_some}
use Rattle.std.proofs.Common.{◌||◌, ap, ◌∙◌}
use Rattle.history_model.specs.History.{status_in, is_next}
use Rattle.store_machine.specs.State.{MachineState, held_by}
use Rattle.store_machine.proofs.machine.Machine.may_begin.Goals as goal

pub returns : goal.returns
returns c = c.may_begin.ensures ∙ ap (λ (m : MachineState). is_some (status_in (held_by m) c.args.session c.args.k) || is_next c.args.session c.args.k (held_by m).runs) c.self.view_is
