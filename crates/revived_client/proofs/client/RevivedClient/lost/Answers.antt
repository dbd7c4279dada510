use Rattle.std.proofs.Common.{true, ap, sym, subst, ◌∙◌, Ok, Err}
use Rattle.std.proofs.lemmas.Result.{err_from_is_err_and}
use Rattle.client_core.specs.declared.fault.ClientFault.TheVariants as fault
use Rattle.reconnect_model.specs.Saying.{loses}
use Rattle.revived_client.specs.State.{RevivedState, quiet}
use Rattle.revived_client.specs.Last.{caught_up}
use Rattle.revived_client.proofs.Keeping.{view_of, still_goes, not_ready, lose_ok, lose_err, loses_at, Loses, goes_lost, goes_kept}
use Rattle.revived_client.proofs.client.RevivedClient.lost.Goals as goal

pub invariant_of-self : goal.invariant_of-self
invariant_of-self c =
    λ on. still_goes c.self.inside.client c.self.inside.reviver c.ready.new.reviver c.self.inside.last c.ready.new.last (c.self.invariant on) c.in_err-ready.ensures.1 c.in_err-ready.ensures.2

pub returns-in_err-ready : goal.returns-in_err-ready
returns-in_err-ready c =
    let p = err_from_is_err_and c.from_residual.result c.from_residual.ensures.1 in
    let done : RevivedState = record { own = quiet c.self.inside.client; revival = loses (caught_up c.self.inside.reviver c.self.inside.last); stop = c.self.inside.stop } in
    loses_at (Unit {0}) (view_of c.self.inside.client c.self.inside.reviver c.self.inside.last c.self.inside.stop) c.args.self.now
    (view_of c.self.inside.client c.ready.new.reviver c.ready.new.last c.self.inside.stop) c.in_err-ready.field-0.0 c.from_residual.result c.self.view_is (p.1 ∙ ap Err p.2)
    (not_ready (Unit {0}) true done c.self.inside.client c.self.inside.reviver c.ready.new.reviver c.self.inside.last c.ready.new.last c.self.inside.stop c.in_err-ready.field-0.0
    c.in_err-ready.ensures.0 c.in_err-ready.ensures.1 c.in_err-ready.ensures.2)

pub invariant_of-self-in_err-lost : goal.invariant_of-self-in_err-lost
invariant_of-self-in_err-lost c =
    λ on. goes_kept c.self.inside.client c.self.inside.reviver c.ready.new.reviver c.lost.new.self c.self.inside.last c.ready.new.last (c.self.invariant on) c.in_ok-ready.ensures.1
    c.in_ok-ready.ensures.2 c.in_err-lost.ensures.err

pub returns-in_err-lost : goal.returns-in_err-lost
returns-in_err-lost c =
    let p = err_from_is_err_and c.from_residual-in_err-lost.result c.from_residual-in_err-lost.ensures.1 in
    let done : RevivedState = record { own = quiet c.self.inside.client; revival = loses (caught_up c.self.inside.reviver c.self.inside.last); stop = c.self.inside.stop } in
    loses_at (Unit {0}) (view_of c.self.inside.client c.self.inside.reviver c.self.inside.last c.self.inside.stop) c.args.self.now
    (view_of c.self.inside.client c.lost.new.self c.ready.new.last c.self.inside.stop) fault.Memory c.from_residual-in_err-lost.result c.self.view_is (p.1 ∙ ap Err p.2)
    (lose_err (Unit {0}) done c.self.inside.client c.self.inside.reviver c.ready.new.reviver c.lost.new.self c.self.inside.last c.ready.new.last c.self.inside.stop
    c.in_ok-ready.ensures.0 c.in_ok-ready.ensures.1 c.in_ok-ready.ensures.2 c.in_err-lost.ensures.err)

pub invariant_of-self-2 : goal.invariant_of-self-2
invariant_of-self-2 c =
    λ on. goes_lost c.self.inside.client c.self.inside.reviver c.ready.new.reviver c.lost.new.self c.self.inside.last c.ready.new.last (c.self.invariant on) c.in_ok-ready.ensures.1
    c.in_ok-ready.ensures.2 c.in_ok-lost.ensures.ok

pub returns : goal.returns
returns c =
    let u : Unit {0} = tt in
    let P : RevivedState → Type 0 = λ v. Loses (Unit {0}) v (view_of c.self.inside.client c.lost.new.self c.ready.new.last c.self.inside.stop) (Ok u) in
    subst P c.self.view_is (lose_ok c.self.inside.client c.self.inside.reviver c.ready.new.reviver c.lost.new.self c.self.inside.last c.ready.new.last c.self.inside.stop u
    c.in_ok-ready.ensures.0 c.in_ok-ready.ensures.1 c.in_ok-ready.ensures.2 c.in_ok-lost.ensures.ok)
