use Rattle.std.proofs.Common.{ℕ, length, ap, sym, subst, ◌∙◌}
use Rattle.std.specs.Prelude.{option_map}
use Rattle.ddp_messages.specs.ClientMessage.{method as calls}
use Rattle.ejson_value.specs.View.{view}
use Rattle.session_laws.specs.session_model.Items.{id_of}
use Rattle.session_laws.specs.session_model.Items as item
use Rattle.session_core.specs.Asked.{Adds, state_in}
use Rattle.session_laws.specs.session_model.Methods.{Blocking}
use Rattle.session_laws.specs.session_model.State.{calling}
use Rattle.session_laws.specs.session_model.Fits.{seed_or}
use Rattle.session_core.proofs.asked.Asked.called.Goals as goal

pub returns : goal.returns
returns c =
    let m = calls c.args.id.now c.args.name.now c.args.params.now (option_map view c.args.given.now) in
    let seed = seed_or c.args.self.now.number (length (state_in c.args.self.now).methods) (option_map view c.args.given.now) in
    let number = ap (λ (b : Blocking). b.k) c.in_ok-call.ensures in
    subst (λ (k : ℕ). Adds c.args.self.now (item.call k m seed) c.call.result) number
    (c.call.ensures m seed (sym c.in_ok-kept_id.ensures) (c.in_ok-kept_id.ensures ∙ sym c.in_ok-shown_id.ensures) (c.in_ok-call.ensures ∙ ap (λ (k : ℕ). calling k m seed) (sym number)))
