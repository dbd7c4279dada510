use Rattle.std.proofs.Common.{◌≡◌, length, false, refl, ap, sym, subst, ◌∙◌}
use Rattle.std.specs.Prelude.{Bool, cond, is_some, option_map}
use Rattle.ddp_messages.specs.ClientMessage.{ClientMessage, method as calls}
use Rattle.ejson_value.specs.View.{view}
use Rattle.session_laws.specs.session_model.Items.{id_of}
use Rattle.session_laws.specs.session_model.Items as item
use Rattle.session_core.specs.declared.adding.Addition.{Addition}
use Rattle.session_core.specs.Asked.{Adds, state_in, item_in}
use Rattle.session_core.proofs.AddingLemmas.{if_adds, some_copied}
use Rattle.app_model.specs.App.{method}
use Rattle.session_laws.specs.session_model.Fits.{seed_or}
use Rattle.session_core.proofs.asked.Asked.method.Goals as goal

pub returns-else-is_some : goal.returns-else-is_some
returns-else-is_some c =
    let m = calls c.args.id.now c.args.name.now c.args.params.now (option_map view c.args.given.now) in
    let k = length (state_in c.args.self.now).methods in
    let none : is_some (method c.args.self.now.app.now c.args.name.now) ≡ false = ap is_some (sym c.method.ensures) ∙ (some_copied c.method.result ∙ (sym c.is_some.ensures ∙ c.if-is_some.false)) in
    if_adds c.args.self.now c.unknown.result (λ (x : Addition). (m : ClientMessage) → id_of m ≡ c.args.id.now → Adds c.args.self.now (item.unknown m) x) (item_in c.args.self.now m)
    (λ x h. subst (λ (b : Bool). Adds c.args.self.now (cond b (item.call k m (seed_or c.args.self.now.number k (option_map view c.args.given.now))) (item.unknown m)) x) (sym none) (h m refl)) c.unknown.ensures
