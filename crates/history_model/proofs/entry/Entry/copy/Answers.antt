use Rattle.std.proofs.Common.{◌≡◌, ap, sym, ◌∙◌}
use Rattle.ejson_value.specs.declared.value.Value.{Value}
use Rattle.history_model.specs.declared.entry.Entry.TheVariants.{Begin}
use Rattle.history_model.specs.ViewLaws.{view-injective}
use Rattle.history_model.proofs.entry.Entry.copy.Goals as goal

pub returns-in_ok-method-in-Begin : goal.returns-in_ok-method-in-Begin
returns-in_ok-method-in-Begin c =
    let seed : c.in_ok-seed-in-Begin.seed ≡ c.in-Begin.seed = view-injective c.in_ok-seed-in-Begin.seed c.in-Begin.seed c.in_ok-seed-in-Begin.ensures in
    ap (λ (v : Value). Begin c.in-Begin.session c.in-Begin.k c.in_ok-method-in-Begin.method c.in_ok-method-in-Begin.params v) seed
    ∙ (ap (λ both. Begin c.in-Begin.session c.in-Begin.k both.0 both.1 c.in-Begin.seed) c.in_ok-method-in-Begin.ensures ∙ sym c.in-Begin.is)
