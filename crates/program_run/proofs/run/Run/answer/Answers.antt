use Rattle.std.specs.Prelude.{IfErr, Result, Some}
use Rattle.std.proofs.Common.{◌≡◌, ap, subst, ◌∙◌}
use Rattle.ejson_value.specs.declared.fault.Fault.{Fault}
use Rattle.collection_store.specs.Applied.{applied}
use Rattle.collection_store.specs.declared.operation.Reply.{Reply}
use Rattle.program_steps.specs.Runs.{done}
use Rattle.program_model.specs.Run.{ended}
use Rattle.program_model.specs.Steps.{by_answer}
use Rattle.program_run.specs.Progress.{with_left}
use Rattle.program_run.specs.Planned.{answered_as, with_ids}
use Rattle.program_run.proofs.Steps.{failed_does, on_err}
use Rattle.program_run.proofs.run.Run.answer.Goals as goal

pub returns-in-Err-clause-does : goal.returns-in-Err-clause-does
returns-in-Err-clause-does c =
    let self = c.args.self.now in
    let store = c.args.store.now in
    failed_does c.end_with.result c.answer_of.new.store.rows self c.end_with.new.self c.in-Err.fault
    (λ left. by_answer store.rows (with_left self left) (applied store.names store.rows c.args.op c.args.room) (λ a. ended (done (Some a.answer)) (with_ids c.args.ids (with_left self left))))
    c.end_with.ensures.ends c.end_with.ensures.nothing
    (λ left. c.in_ok-reply.ensures.does (with_left self left) (λ a. ended (done (Some a.answer)) (with_ids c.args.ids (with_left self left)))
    ∙ ap (λ (r : Result Reply Fault). answered_as c.answer_of.new.store.rows (with_left self left) (λ a. ended (done (Some a.answer)) (with_ids c.args.ids (with_left self left))) r) c.in-Err.is)

pub returns-in-Err-clause-store : goal.returns-in-Err-clause-store
returns-in-Err-clause-store c = on_err c.end_with.result (subst (λ (r : Result Reply Fault). IfErr r (λ fault. c.answer_of.new.store ≡ c.args.store.now)) c.in-Err.is c.in_ok-reply.ensures.refused)
