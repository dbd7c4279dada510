use Rattle.std.proofs.Common.{ap, sym, subst, ◌∙◌, refl, None, Err}
use Rattle.client_core.specs.State.{Own}
use Rattle.revived_client.specs.State.{RevivedState}
use Rattle.revived_client.specs.Hearing.{Hears}
use Rattle.revived_client.proofs.Keeping.{view_of, no_take_fault, heard_is, heard_goes, heard_not, takes_going, none_left, failed_is}
use Rattle.revived_client.proofs.client.RevivedClient.heard.Goals as goal

pub returns-in-Some : goal.returns-in-Some
returns-in-Some c =
    let v : RevivedState = view_of c.self.inside.client c.self.inside.reviver c.self.inside.last c.self.inside.stop in
    let P : RevivedState → Type 0 = λ w. Hears {X = Unit {0}} c.args.text.now w w (Err c.in-Some.fault) in
    subst P c.self.view_is
    (heard_not c.args.text.now v c.in-Some.fault (Err c.in-Some.fault)
    (sym c.in-Some.is ∙ (c.take_fault_of.ensures ∙ failed_is c.self.inside.client c.client.result.now c.self.inside.stop c.failed.result c.client.ensures c.failed.ensures)) refl)

pub hear-heard-requires-clause-takes : goal.hear-heard-requires-clause-takes
hear-heard-requires-clause-takes c =
    let on = no_take_fault c.self.inside.stop c.failed.result (sym c.take_fault_of.ensures ∙ c.in_default.is) in
    takes_going c.self.inside.client c.self.inside.reviver c.self.inside.last c.failed.result (c.self.invariant on.0) (c.failed.ensures ∙ ap (λ (o : Own). o.client.is_failed) c.client.ensures) on.1

pub hear-heard-requires-clause-unbroken : goal.hear-heard-requires-clause-unbroken
hear-heard-requires-clause-unbroken c =
    (c.self.invariant (no_take_fault c.self.inside.stop c.failed.result (sym c.take_fault_of.ensures ∙ c.in_default.is)).0).unbroken

pub invariant_of-self : goal.invariant_of-self
invariant_of-self c =
    let on = no_take_fault c.self.inside.stop c.failed.result (sym c.take_fault_of.ensures ∙ c.in_default.is) in
    let goes = c.self.invariant on.0 in
    λ going. heard_goes c.args.text.now c.self.inside.client c.hear-heard.new.client c.self.inside.reviver c.hear-heard.new.reviver c.self.inside.last c.hear-heard.new.last c.hear-heard.result
    (takes_going c.self.inside.client c.self.inside.reviver c.self.inside.last c.failed.result goes (c.failed.ensures ∙ ap (λ (o : Own). o.client.is_failed) c.client.ensures) on.1) goes
    c.hear-heard.ensures.hears (none_left c.hear-heard.result c.hear-heard.new.last c.hear-heard.ensures.last) (sym c.stop_of-self-inside.ensures ∙ going)

pub returns : goal.returns
returns c =
    let P : RevivedState → Type 0 =
    λ w. Hears c.args.text.now w (view_of c.hear-heard.new.client c.hear-heard.new.reviver c.hear-heard.new.last c.stop_of-self-inside.result) c.hear-heard.result in
    subst P c.self.view_is
    (heard_is c.args.text.now c.self.inside.client c.hear-heard.new.client c.self.inside.reviver c.hear-heard.new.reviver c.self.inside.last c.hear-heard.new.last c.self.inside.stop
    c.stop_of-self-inside.result c.failed.result c.hear-heard.result c.self.invariant (c.failed.ensures ∙ ap (λ (o : Own). o.client.is_failed) c.client.ensures)
    (sym c.in_default.is ∙ c.take_fault_of.ensures) c.hear-heard.ensures.hears c.stop_of-self-inside.ensures)
