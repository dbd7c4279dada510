use Rattle.std.proofs.Common.{sym, subst, ◌∙◌, ap, List, ℕ, Result, Err}
use Rattle.std.proofs.lemmas.Result.{err_from_is_err_and}
use Rattle.client_core.specs.declared.fault.TakeFault.{TakeFault}
use Rattle.revived_client.specs.Hearing.{IsGiven}
use Rattle.revived_client.proofs.Keeping.{gave_refused}
use Rattle.revived_client.proofs.client.give.Goals as goal

pub returns-in_err-take : goal.returns-in_err-take
returns-in_err-take c =
    let p = err_from_is_err_and c.from_residual.result c.from_residual.ensures.1 in
    let items = c.as_slice-text-items.result.now in
    let P : Result (Unit {0}) TakeFault → Type 0 = λ r. IsGiven c.args.texts.now c.args.client.now c.take.new.self r in
    let Q : List (List ℕ) → Type 0 = λ ts. IsGiven {X = Unit {0}} ts c.args.client.now c.take.new.self (Err c.in_err-take.field-0.0) in
    subst P (sym (p.1 ∙ ap Err p.2))
    (subst Q c.as_slice-text-items.ensures
    (gave_refused items c.args.client.now c.loop-text.client c.take.new.self c.loop-text.text-index c.text-item.result c.in_err-take.field-0.0 c.loop-text.invariant.left c.loop-text.invariant.on
    c.loop-text-test.true c.text-item.is c.in_err-take.ensures))
