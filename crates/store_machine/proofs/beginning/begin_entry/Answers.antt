use Rattle.std.proofs.Common.{◌≡◌, ap, ◌∙◌}
use Rattle.ejson_value.specs.declared.value.Value.{Value}
use Rattle.history_model.specs.declared.entry.Entry.TheVariants.{Begin}
use Rattle.history_model.specs.ViewLaws.{view-injective}
use Rattle.store_machine.proofs.beginning.begin_entry.Goals as goal

pub returns : goal.returns
returns c =
    let seed : c.in_ok-seed.seed ≡ c.args.seed.now = view-injective c.in_ok-seed.seed c.args.seed.now c.in_ok-seed.ensures in
    ap (λ (v : Value). Begin c.args.session c.args.k c.in_ok-method.method c.in_ok-method.params v) seed
    ∙ ap (λ both. Begin c.args.session c.args.k both.0 both.1 c.args.seed.now) c.in_ok-method.ensures
