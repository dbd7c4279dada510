use Rattle.std.specs.Prelude.{Result, Ok, is_ok}
use Rattle.std.proofs.Common.{◌≡◌, cond, ap, ap₂, sym, subst, suc, length, ◌∙◌, List, ◌++◌, ◌∷◌, []}
use Rattle.ejson_value.specs.ChangeLaws.{AllFit}
use Rattle.client_model.specs.Client.{Call}
use Rattle.client_core.specs.Asked.{AreOf}
use Rattle.client_core.specs.State.{Own, state_of}
use Rattle.client_core.proofs.Shown.{call_shown}
use Rattle.client_core.proofs.client.Client.enter_call.Goals as goal

pushed : {X E : Type 0} (r : Result X E) (x : X) (after more old : List Call) → r ≡ Ok x → after ≡ cond (is_ok r) more old → after ≡ more
pushed r x after more old ok is = is ∙ ap (λ q. cond (is_ok q) more old) ok

pub simulate-requires-clause-fit : goal.simulate-requires-clause-fit
simulate-requires-clause-fit c = subst (λ (own : Own). AllFit own.client.documents.view c.args.simulated.now.changes) (sym c.self.view_is) c.requires.of.fit

pub invariant_of-self-2 : goal.invariant_of-self-2
invariant_of-self-2 c =
    let s = c.self.inside in
    let next = subst (λ (own : Own). c.args.number ≡ suc (length own.client.calls)) (sym c.self.view_is) c.requires.next in
    let are = subst (λ (own : Own). AreOf own.client.documents.view c.args.simulated.now) (sym c.self.view_is) c.requires.of in
    call_shown (state_of s.session s.is_failed s.broken s.waiting.items s.view s.subs s.calls.items) c.args.number c.args.simulated.now c.push_back.new.self.items c.simulate.new.self c.push.new.self.items
    next c.requires.few c.in_ok-simulate.ensures.ok (pushed c.push.result c.unwrap-2.result c.push.new.self.items (c.reserve-2.new.self.items ++ c.new.result ∷ []) c.reserve-2.new.self.items c.unwrap-2.ensures c.push.ensures.items
    ∙ ap₂ (λ (calls : List Call) (call : Call). calls ++ call ∷ []) c.reserve-2.ensures.items c.new.ensures)
    are c.self.invariant.0
