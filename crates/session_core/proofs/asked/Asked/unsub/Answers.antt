use Rattle.std.proofs.Common.{◌≡◌, ℕ, List, None, refl, ap, sym, subst, ◌∙◌}
use Rattle.std.specs.Prelude.{Option, map}
use Rattle.ddp_messages.specs.ClientMessage.{ClientMessage, unsub as ends}
use Rattle.session_laws.specs.session_model.Items.{id_of}
use Rattle.session_laws.specs.session_model.Items as item
use Rattle.session_core.specs.declared.adding.Addition.{Addition}
use Rattle.session_state.specs.Subs.{as_live}
use Rattle.session_core.specs.Asked.{Adds, item_in}
use Rattle.session_core.proofs.AddingLemmas.{if_adds}
use Rattle.session_laws.specs.session_model.Subscriptions.{sub_named}
use Rattle.session_laws.specs.session_model.Fits.{closed_by}
use Rattle.session_state.specs.declared.subs.Sub.{Sub}
use Rattle.session_core.proofs.asked.Asked.unsub.Goals as goal

pub returns-in-None : goal.returns-in-None
returns-in-None c =
    let m = ends c.args.id.now in
    let found = ap (λ (xs : List Sub). sub_named c.args.id.now (map as_live xs)) (sym c.as_slice.ensures.value) ∙ (sym c.sub_named.ensures ∙ c.in-None.is) in
    if_adds c.args.self.now c.nosub.result (λ (x : Addition). (m : ClientMessage) → id_of m ≡ c.args.id.now → Adds c.args.self.now (item.nosub m None) x) (item_in c.args.self.now m)
    (λ x h. subst (λ (o : Option ℕ). Adds c.args.self.now (closed_by m o) x) (sym found) (h m refl)) c.nosub.ensures

pub returns-in-Some : goal.returns-in-Some
returns-in-Some c =
    let m = ends c.args.id.now in
    let found = ap (λ (xs : List Sub). sub_named c.args.id.now (map as_live xs)) (sym c.as_slice.ensures.value) ∙ (sym c.sub_named.ensures ∙ c.in-Some.is) in
    if_adds c.args.self.now c.close.result (λ (x : Addition). (m : ClientMessage) → id_of m ≡ c.args.id.now → Adds c.args.self.now (item.close c.in-Some.sub m) x) (item_in c.args.self.now m)
    (λ x h. subst (λ (o : Option ℕ). Adds c.args.self.now (closed_by m o) x) (sym found) (h m refl)) c.close.ensures
