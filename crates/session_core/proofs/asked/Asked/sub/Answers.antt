use Rattle.std.proofs.Common.{◌≡◌, List, true, false, Some, refl, ap, sym, subst, ◌∙◌}
use Rattle.std.specs.Prelude.{Bool, cond, is_some, map}
use Rattle.ddp_messages.specs.ClientMessage.{ClientMessage, sub as asks}
use Rattle.session_laws.specs.session_model.Items.{id_of}
use Rattle.session_laws.specs.session_model.Items as item
use Rattle.session_laws.specs.session_model.declared.fault.SubFault.TheVariants as fault
use Rattle.session_core.specs.declared.adding.Addition.{Addition}
use Rattle.session_state.specs.Subs.{as_live}
use Rattle.session_core.specs.Asked.{Adds, state_in, item_in}
use Rattle.session_core.proofs.AddingLemmas.{if_adds}
use Rattle.session_laws.specs.session_model.Publication.{making}
use Rattle.session_laws.specs.session_model.Subscriptions.{sub_named, is_crowded}
use Rattle.session_laws.specs.session_model.Fits.{opened_by}
use Rattle.session_state.specs.declared.subs.Sub.{Sub}
use Rattle.session_core.proofs.asked.Asked.sub.Goals as goal

pub returns-then-is_some : goal.returns-then-is_some
returns-then-is_some c =
    let m = asks c.args.id.now c.args.name.now c.args.params.now in
    let st = state_in c.args.self.now in
    let some : is_some (sub_named c.args.id.now st.subs) ≡ true =
    ap (λ (xs : List Sub). is_some (sub_named c.args.id.now (map as_live xs))) (sym c.as_slice.ensures.value) ∙ (ap is_some (sym c.sub_named.ensures) ∙ (sym c.is_some.ensures ∙ c.if-is_some.true)) in
    if_adds c.args.self.now c.same.result (λ (x : Addition). (m : ClientMessage) → id_of m ≡ c.args.id.now → Adds c.args.self.now (item.same m) x) (item_in c.args.self.now m)
    (λ x h. subst (λ (b : Bool). Adds c.args.self.now (cond b (item.same m) (cond (is_crowded st.subs) (item.nosub m (Some fault.TooMany)) (opened_by st.opened m (making c.args.self.now.app.now c.args.name.now c.args.params.now)))) x) (sym some) (h m refl)) c.same.ensures

pub returns-then-is_crowded : goal.returns-then-is_crowded
returns-then-is_crowded c =
    let m = asks c.args.id.now c.args.name.now c.args.params.now in
    let st = state_in c.args.self.now in
    let none : is_some (sub_named c.args.id.now st.subs) ≡ false =
    ap (λ (xs : List Sub). is_some (sub_named c.args.id.now (map as_live xs))) (sym c.as_slice.ensures.value) ∙ (ap is_some (sym c.sub_named.ensures) ∙ (sym c.is_some.ensures ∙ c.if-is_some.false)) in
    let crowded : is_crowded st.subs ≡ true = ap (λ (xs : List Sub). is_crowded (map as_live xs)) (sym c.as_slice-2.ensures.value) ∙ (sym c.is_crowded.ensures ∙ c.if-is_crowded.true) in
    if_adds c.args.self.now c.nosub.result (λ (x : Addition). (m : ClientMessage) → id_of m ≡ c.args.id.now → Adds c.args.self.now (item.nosub m (Some fault.TooMany)) x) (item_in c.args.self.now m)
    (λ x h. subst (λ (b : Bool). Adds c.args.self.now (cond b (item.same m) (cond (is_crowded st.subs) (item.nosub m (Some fault.TooMany)) (opened_by st.opened m (making c.args.self.now.app.now c.args.name.now c.args.params.now)))) x) (sym none)
    (subst (λ (b : Bool). Adds c.args.self.now (cond b (item.nosub m (Some fault.TooMany)) (opened_by st.opened m (making c.args.self.now.app.now c.args.name.now c.args.params.now))) x) (sym crowded) (h m refl))) c.nosub.ensures
