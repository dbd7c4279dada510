use Rattle.std.specs.Prelude.{IfOk, option_and_then}
use Rattle.std.proofs.Common.{◌≡◌, ◌≤◌, length, ap, subst, ◌∙◌, arith}
use Rattle.history_model.specs.History.{status_at}
use Rattle.store_machine.specs.State.{MachineState, programs}
use Rattle.store_machine.specs.Standing.{called_by, seen}
use Rattle.store_machine.proofs.Machines.{status_told}
use Rattle.store_machine.proofs.machine.Machine.status.Goals as goal

pub returns-in-Some : goal.returns-in-Some
returns-in-Some c =
    let there : c.args.at ≤ length (seen c.self.inside.app c.self.inside.parts).history = omega (arith, c.requires, ap (λ (m : MachineState). length m.history) c.self.view_is) in
    let told = status_told c.self.inside.app c.self.inside.parts c.args.at c.args.session c.args.k c.self.invariant there ∙ ap (λ (m : MachineState). status_at (programs m.app) m.history c.args.at c.args.session c.args.k) c.self.view_is in
    subst (λ s. IfOk c.status.result (λ status. status ≡ s)) (ap (option_and_then (called_by c.args.at)) c.in-Some.ensures.value ∙ told) c.status.ensures

pub returns-in-None : goal.returns-in-None
returns-in-None c =
    let there : c.args.at ≤ length (seen c.self.inside.app c.self.inside.parts).history = omega (arith, c.requires, ap (λ (m : MachineState). length m.history) c.self.view_is) in
    ap (option_and_then (called_by c.args.at)) c.in-None.ensures.value
    ∙ (status_told c.self.inside.app c.self.inside.parts c.args.at c.args.session c.args.k c.self.invariant there ∙ ap (λ (m : MachineState). status_at (programs m.app) m.history c.args.at c.args.session c.args.k) c.self.view_is)
