use Rattle.std.specs.Prelude.{ℕ, List, Option, IfSome, IsUtf8}
use Rattle.std.proofs.Common.{sym, subst}
use Rattle.collection_store.specs.declared.operation.Op.{Op}
use Rattle.operation_reading.specs.Tells.{Tells}
use Rattle.replay_core.proofs.Told.{is_operation}
use Rattle.replay_core.proofs.tasks.operation_in.Goals as goal

pub returns-in-Some-clause-operation : goal.returns-in-Some-clause-operation
returns-in-Some-clause-operation c =
    let text = c.in-Ok.text.now in
    let utf8 = subst (λ (t : List ℕ). IsUtf8 t) (sym c.in-Ok.ensures.cases.0) c.in-Ok.ensures.cases.1 in
    let told = subst (λ (o : Option Op). IfSome o (λ op. Tells text op)) c.in-Some.is c.in_ok-operation.ensures in is_operation text c.in-Some.operation utf8 told
