use Rattle.std.proofs.Common.{ap, sym, subst, ◌∙◌, refl, Option, Some, None, Result, Ok, Err}
use Rattle.std.proofs.lemmas.Result.{err_from_is_err_and}
use Rattle.client_core.specs.declared.fault.ClientFault.{ClientFault}
use Rattle.revived_client.specs.Asking.{MayRefuse, Readies}
use Rattle.revived_client.proofs.Keeping.{no_fault}
use Rattle.revived_client.proofs.client.ready.Goals as goal

pub returns-in-Some : goal.returns-in-Some
returns-in-Some c =
    let P : Option ClientFault → Type 0 = λ o. MayRefuse o c.in-Some.fault in
    (subst P (sym c.in-Some.is ∙ c.fault_of.ensures) refl, refl, refl)

pub returns-in_err-catch_up : goal.returns-in_err-catch_up
returns-in_err-catch_up c =
    let p = err_from_is_err_and c.from_residual.result c.from_residual.ensures.1 in
    let P : Option ClientFault → Type 0 = λ o. MayRefuse o p.0 in
    let Q : Result (Unit {0}) ClientFault → Type 0 = λ r. Readies c.args.stop c.args.reviver.now c.args.last.now c.catch_up.new.reviver c.catch_up.new.last r in
    subst Q (sym p.1) (subst P (sym c.in_default.is ∙ c.fault_of.ensures) p.2, c.in_err-catch_up.ensures.err.0, c.in_err-catch_up.ensures.err.1)

pub returns : goal.returns
returns c = (no_fault c.args.stop (sym c.fault_of.ensures ∙ c.in_default.is), c.in_ok-catch_up.ensures.ok.0, c.in_ok-catch_up.ensures.ok.1)
