use Rattle.std.proofs.Common.{length, ap, ◌∙◌, arith}
use Rattle.history_model.specs.History.{changes_between}
use Rattle.store_machine.specs.State.{MachineState, programs}
use Rattle.store_machine.proofs.Machines.{length_seen, changes_told}
use Rattle.store_machine.proofs.machine.Machine.changes_of.Goals as goal

pub changes_of-requires : goal.changes_of-requires
changes_of-requires c = omega (arith, c.requires, length_seen c.self.inside.app c.self.inside.parts, ap (λ (m : MachineState). length m.history) c.self.view_is)

pub returns : goal.returns
returns c =
    c.changes_of.ensures
    ∙ (changes_told c.self.inside.app c.self.inside.parts c.args.entry 1 c.self.invariant ∙ ap (λ (m : MachineState). changes_between (programs m.app) m.history c.args.entry 1) c.self.view_is)
