use Rattle.std.specs.Prelude.{is_some, OnErr}
use Rattle.std.proofs.Common.{◌≡◌, ◌||◌, ap, subst, ◌∙◌}
use Rattle.app_model.specs.App.{method}
use Rattle.history_model.specs.History.{status_in, is_next}
use Rattle.store_machine.specs.State.{MachineState, held_by, begin_answer, BeginGives}
use Rattle.store_machine.specs.Standing.{seen}
use Rattle.store_machine.proofs.machine.Machine.begin.Goals as goal

pub begin-requires-clause-known : goal.begin-requires-clause-known
begin-requires-clause-known c = ap (λ (m : MachineState). is_some (method m.app c.args.method.now)) c.self.view_is ∙ c.requires.known

pub begin-requires-clause-next : goal.begin-requires-clause-next
begin-requires-clause-next c = ap (λ (m : MachineState). is_some (status_in (held_by m) c.args.session c.args.k) || is_next c.args.session c.args.k (held_by m).runs) c.self.view_is ∙ c.requires.next

pub returns-clause-gives : goal.returns-clause-gives
returns-clause-gives c =
    subst (λ (m : MachineState). BeginGives (λ status. seen c.self.inside.app c.begin.new.parts) c.begin.result (begin_answer m c.args.session c.args.k c.args.method.now c.args.params.now c.args.seed.now)) c.self.view_is c.begin.ensures.gives

pub returns-clause-refused : goal.returns-clause-refused
returns-clause-refused c = subst (λ (m : MachineState). OnErr c.begin.result (seen c.self.inside.app c.begin.new.parts ≡ m)) c.self.view_is c.begin.ensures.refused
