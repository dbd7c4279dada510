use Rattle.std.proofs.Common.{◌≡◌, Some, refl, sym, subst, ◌∙◌}
use Rattle.ddp_messages.specs.ClientMessage.{ClientMessage, sub as asks}
use Rattle.session_laws.specs.session_model.Items.{id_of}
use Rattle.session_laws.specs.session_model.Items as item
use Rattle.session_core.specs.declared.adding.Addition.{Addition}
use Rattle.session_core.specs.Asked.{Adds, state_in}
use Rattle.session_core.proofs.AddingLemmas.{if_adds}
use Rattle.session_laws.specs.session_model.Publication.{Making, making}
use Rattle.session_laws.specs.session_model.Fits.{opened_by}
use Rattle.session_core.proofs.asked.Asked.sub_made.Goals as goal

pub returns-in-Err : goal.returns-in-Err
returns-in-Err c =
    let m = asks c.args.id.now c.args.name.now c.args.params.now in
    let made = sym c.in_ok-fault.ensures ∙ c.in-Err.is in
    if_adds c.args.self.now c.nosub.result (λ (x : Addition). (m : ClientMessage) → id_of m ≡ c.args.id.now → Adds c.args.self.now (item.nosub m (Some c.in-Err.fault)) x) (opened_by (state_in c.args.self.now).opened m (making c.args.self.now.app.now c.args.name.now c.args.params.now))
    (λ x h. subst (λ (r : Making). Adds c.args.self.now (opened_by (state_in c.args.self.now).opened m r) x) (sym made) (h m refl)) c.nosub.ensures
