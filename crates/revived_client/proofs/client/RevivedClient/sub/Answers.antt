use Rattle.std.proofs.Common.{ℕ, ap, sym, subst, ◌∙◌, Ok, Err}
use Rattle.std.proofs.lemmas.Result.{err_from_is_err_and}
use Rattle.client_script.specs.declared.line.Ask.{Ask}
use Rattle.client_script.specs.declared.line.Ask.TheVariants as ask
use Rattle.revived_client.specs.State.{RevivedState}
use Rattle.revived_client.specs.Asking.{Asks}
use Rattle.revived_client.proofs.Keeping.{view_of, still_goes, ask_not_ready, ask_err, ask_ok, going_err, going_ok, one_waits, asks_at}
use Rattle.revived_client.proofs.client.RevivedClient.sub.Goals as goal

pub invariant_of-self : goal.invariant_of-self
invariant_of-self c =
    λ on. still_goes c.self.inside.client c.self.inside.reviver c.ready.new.reviver c.self.inside.last c.ready.new.last (c.self.invariant on) c.in_err-ready.ensures.1 c.in_err-ready.ensures.2

pub returns-in_err-ready : goal.returns-in_err-ready
returns-in_err-ready c =
    let p = err_from_is_err_and c.from_residual.result c.from_residual.ensures.1 in
    let a : Ask = ask.Sub c.args.id.now c.args.name.now c.args.params.now in
    asks_at (Unit {0}) a (view_of c.self.inside.client c.self.inside.reviver c.self.inside.last c.self.inside.stop) c.args.self.now
    (view_of c.self.inside.client c.ready.new.reviver c.ready.new.last c.self.inside.stop) c.in_err-ready.field-0.0 c.from_residual.result c.self.view_is (p.1 ∙ ap Err p.2)
    (ask_not_ready (Unit {0}) a c.self.inside.client c.self.inside.reviver c.ready.new.reviver c.self.inside.last c.ready.new.last c.self.inside.stop c.in_err-ready.field-0.0
    c.in_err-ready.ensures.0 c.in_err-ready.ensures.1 c.in_err-ready.ensures.2)

pub invariant_of-self-in_err-text : goal.invariant_of-self-in_err-text
invariant_of-self-in_err-text c =
    let a : Ask = ask.Sub c.args.id.now c.args.name.now c.args.params.now in
    λ on. going_err a c.self.inside.client c.sub.new.self c.self.inside.reviver c.ready.new.reviver c.self.inside.last c.ready.new.last c.in_err-text.field-0.0 (c.self.invariant on)
    c.in_ok-ready.ensures.1 c.in_ok-ready.ensures.2 c.in_err-text.ensures

pub returns-in_err-text : goal.returns-in_err-text
returns-in_err-text c =
    let p = err_from_is_err_and c.from_residual-in_err-text.result c.from_residual-in_err-text.ensures.1 in
    let a : Ask = ask.Sub c.args.id.now c.args.name.now c.args.params.now in
    asks_at (Unit {0}) a (view_of c.self.inside.client c.self.inside.reviver c.self.inside.last c.self.inside.stop) c.args.self.now
    (view_of c.sub.new.self c.ready.new.reviver c.ready.new.last c.self.inside.stop) c.in_err-text.field-0.0 c.from_residual-in_err-text.result c.self.view_is (p.1 ∙ ap Err p.2)
    (ask_err (Unit {0}) a c.self.inside.client c.sub.new.self c.self.inside.reviver c.ready.new.reviver c.self.inside.last c.ready.new.last c.self.inside.stop c.in_err-text.field-0.0
    c.self.invariant c.in_ok-ready.ensures.0 c.in_ok-ready.ensures.1 c.in_ok-ready.ensures.2 c.in_err-text.ensures)

pub keep-requires : goal.keep-requires
keep-requires c =
    one_waits (ask.Sub c.args.id.now c.args.name.now c.args.params.now) c.self.inside.client c.sub.new.self c.in_ok-text.text ((c.self.invariant c.in_ok-ready.ensures.0).quiet) c.in_ok-text.ensures

pub invariant_of-self-2 : goal.invariant_of-self-2
invariant_of-self-2 c =
    let a : Ask = ask.Sub c.args.id.now c.args.name.now c.args.params.now in
    λ on. going_ok a c.self.inside.client c.sub.new.self c.keep.new.client c.self.inside.reviver c.ready.new.reviver c.self.inside.last c.ready.new.last c.keep.new.last c.in_ok-text.text
    (c.self.invariant on) c.in_ok-ready.ensures.1 c.in_ok-ready.ensures.2 c.in_ok-text.ensures c.keep.ensures.client c.keep.ensures.last

pub returns : goal.returns
returns c =
    let a : Ask = ask.Sub c.args.id.now c.args.name.now c.args.params.now in
    let u : Unit {0} = tt in
    let P : RevivedState → Type 0 = λ v. Asks a v (view_of c.keep.new.client c.ready.new.reviver c.keep.new.last c.self.inside.stop) (Ok u) in
    subst P c.self.view_is (ask_ok a c.self.inside.client c.sub.new.self c.keep.new.client c.self.inside.reviver c.ready.new.reviver c.self.inside.last c.ready.new.last c.keep.new.last c.self.inside.stop
    c.in_ok-text.text u c.self.invariant c.in_ok-ready.ensures.0 c.in_ok-ready.ensures.1 c.in_ok-ready.ensures.2 c.in_ok-text.ensures c.keep.ensures.client c.keep.ensures.last)
