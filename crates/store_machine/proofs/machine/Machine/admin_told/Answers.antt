use Rattle.std.specs.Prelude.{OnErr}
use Rattle.std.proofs.Common.{◌≡◌, subst}
use Rattle.history_log.specs.Entries.{told_operation}
use Rattle.store_machine.specs.State.{MachineState, admin_answer, AdminGives}
use Rattle.store_machine.specs.Standing.{seen}
use Rattle.store_machine.proofs.machine.Machine.admin_told.Goals as goal

pub returns-clause-gives : goal.returns-clause-gives
returns-clause-gives c = subst (λ (m : MachineState). AdminGives (λ u. seen c.self.inside.app c.admin_told.new.parts) c.admin_told.result (admin_answer m (told_operation c.args.text.now))) c.self.view_is c.admin_told.ensures.gives

pub returns-clause-refused : goal.returns-clause-refused
returns-clause-refused c = subst (λ (m : MachineState). OnErr c.admin_told.result (seen c.self.inside.app c.admin_told.new.parts ≡ m)) c.self.view_is c.admin_told.ensures.refused
