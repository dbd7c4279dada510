use Rattle.std.specs.Prelude.{OnErr}
use Rattle.std.proofs.Common.{◌≡◌, subst}
use Rattle.store_machine.specs.State.{MachineState, admin_answer, AdminGives}
use Rattle.store_machine.specs.Standing.{seen}
use Rattle.store_machine.proofs.machine.Machine.admin.Goals as goal

pub returns-clause-gives : goal.returns-clause-gives
returns-clause-gives c = subst (λ (m : MachineState). AdminGives (λ u. seen c.self.inside.app c.admin.new.parts) c.admin.result (admin_answer m c.args.op.now)) c.self.view_is c.admin.ensures.gives

pub returns-clause-refused : goal.returns-clause-refused
returns-clause-refused c = subst (λ (m : MachineState). OnErr c.admin.result (seen c.self.inside.app c.admin.new.parts ≡ m)) c.self.view_is c.admin.ensures.refused
