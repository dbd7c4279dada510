use Rattle.std.specs.Prelude.{IfOk}
use Rattle.std.proofs.Common.{◌≡◌, ap, subst, ◌∙◌}
use Rattle.history_model.specs.History.{changes_between}
use Rattle.store_machine.specs.State.{MachineState, programs}
use Rattle.store_machine.proofs.Machines.{changes_told}
use Rattle.store_machine.proofs.machine.Machine.batch.Goals as goal

pub returns : goal.returns
returns c =
    let told = changes_told c.self.inside.app c.self.inside.parts c.args.from c.args.count c.self.invariant ∙ ap (λ (m : MachineState). changes_between (programs m.app) m.history c.args.from c.args.count) c.self.view_is in
    subst (λ cs. IfOk c.batch.result (λ batch. batch ≡ record { from = c.args.from; count = c.args.count; changes = cs })) told c.batch.ensures
