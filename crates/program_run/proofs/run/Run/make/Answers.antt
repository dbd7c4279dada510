use Rattle.std.specs.Prelude.{IfErr, Result}
use Rattle.std.proofs.Common.{◌≡◌, subst}
use Rattle.ejson_value.specs.declared.fault.Fault.{Fault}
use Rattle.collection_store.specs.declared.operation.Reply.{Reply}
use Rattle.program_run.proofs.Steps.{on_err}
use Rattle.program_run.proofs.run.Run.make.Goals as goal

pub returns-in-Err-clause-store : goal.returns-in-Err-clause-store
returns-in-Err-clause-store c = on_err c.end_with.result (subst (λ (r : Result Reply Fault). IfErr r (λ fault. c.answer_of.new.store ≡ c.args.store.now)) c.in-Err.is c.in_ok-reply.ensures.refused)
