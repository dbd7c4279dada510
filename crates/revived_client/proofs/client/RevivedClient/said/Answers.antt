use Rattle.std.proofs.Common.{sym, subst, ◌∙◌, None, refl}
use Rattle.revived_client.specs.State.{RevivedState}
use Rattle.revived_client.specs.Asking.{Says}
use Rattle.revived_client.proofs.Keeping.{view_of, said_ok, said_nothing, not_stopped, goes_said}
use Rattle.revived_client.proofs.client.RevivedClient.said.Goals as goal

pub returns-then-is_some : goal.returns-then-is_some
returns-then-is_some c =
    let P : RevivedState → Type 0 = λ v. Says v v None in
    subst P c.self.view_is
    (said_nothing (view_of c.self.inside.client c.self.inside.reviver c.self.inside.last c.self.inside.stop) c.self.inside.stop refl (sym c.is_some.ensures ∙ c.if-is_some.true))

pub say-requires : goal.say-requires
say-requires c = (c.self.invariant (not_stopped c.self.inside.stop (sym c.is_some.ensures ∙ c.if-is_some.false))).next

pub invariant_of-self : goal.invariant_of-self
invariant_of-self c =
    λ on. goes_said c.self.inside.client c.self.inside.reviver c.say.new.reviver c.self.inside.last c.say.new.last (c.self.invariant on) c.say.ensures.says c.say.ensures.next c.say.ensures.broken

pub returns : goal.returns
returns c =
    let P : RevivedState → Type 0 = λ v. Says v (view_of c.self.inside.client c.say.new.reviver c.say.new.last c.self.inside.stop) c.say.result in
    subst P c.self.view_is (said_ok c.self.inside.client c.self.inside.reviver c.say.new.reviver c.self.inside.last c.say.new.last c.self.inside.stop c.say.result
    (not_stopped c.self.inside.stop (sym c.is_some.ensures ∙ c.if-is_some.false)) c.say.ensures.text c.say.ensures.says)
