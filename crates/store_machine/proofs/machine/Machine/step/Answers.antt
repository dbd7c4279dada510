use Rattle.std.specs.Prelude.{None, IfOk, OnOk, OnErr, if◌then◌else◌}
use Rattle.std.proofs.Common.{◌≡◌, subst}
use Rattle.history_model.specs.History.{status_in}
use Rattle.store_machine.specs.State.{MachineState, held_by, is_running, step_state}
use Rattle.store_machine.specs.Standing.{seen}
use Rattle.store_machine.proofs.machine.Machine.step.Goals as goal

pub returns-clause-ok : goal.returns-clause-ok
returns-clause-ok c = subst (λ (m : MachineState). OnOk c.step.result (seen c.self.inside.app c.step.new.parts ≡ step_state m c.args.session c.args.k)) c.self.view_is c.step.ensures.ok

pub returns-clause-status : goal.returns-clause-status
returns-clause-status c =
    subst (λ (m : MachineState). IfOk c.step.result (λ status. status ≡ (if is_running m c.args.session c.args.k then status_in (held_by (seen c.self.inside.app c.step.new.parts)) c.args.session c.args.k else None))) c.self.view_is c.step.ensures.status

pub returns-clause-refused : goal.returns-clause-refused
returns-clause-refused c = subst (λ (m : MachineState). OnErr c.step.result (seen c.self.inside.app c.step.new.parts ≡ m)) c.self.view_is c.step.ensures.err
