use Rattle.std.specs.Prelude.{IfOk}
use Rattle.std.proofs.Common.{◌≡◌, length, ap, subst, ◌∙◌, arith}
use Rattle.store_machine.specs.State.{MachineState, held_after}
use Rattle.store_machine.proofs.Machines.{length_seen, rows_told}
use Rattle.store_machine.proofs.machine.Machine.contents_at.Goals as goal

pub contents_at-requires : goal.contents_at-requires
contents_at-requires c = omega (arith, c.requires, length_seen c.self.inside.app c.self.inside.parts, ap (λ (m : MachineState). length m.history) c.self.view_is)

pub returns-else-at-length : goal.returns-else-at-length
returns-else-at-length c =
    let told = rows_told c.self.inside.app c.self.inside.parts c.args.at c.self.invariant ∙ ap (λ (m : MachineState). (held_after m c.args.at).rows) c.self.view_is in
    subst (λ rows. IfOk c.contents_at.result (λ contents. contents ≡ rows)) told c.contents_at.ensures
