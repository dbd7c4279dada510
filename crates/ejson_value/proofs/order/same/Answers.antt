use Rattle.std.proofs.Common.{◌≡◌, ◌∙◌, ap, sym, subst}
use Rattle.std.specs.Prelude.{◌↔◌, IsTrue}
use Rattle.std.specs.Ordering.{is_eq}
use Rattle.value_model.specs.OrderLaws.{compare_is_eq}
use Rattle.ejson_value.specs.View.{view}
use Rattle.ejson_value.proofs.order.same.Goals as goal

pub returns : goal.returns
returns c =
    subst (λ b. IsTrue b ↔ (view c.args.a.now ≡ view c.args.b.now)) (sym (c.is_eq.ensures ∙ ap is_eq c.compare.ensures)) (compare_is_eq (view c.args.a.now) (view c.args.b.now))
