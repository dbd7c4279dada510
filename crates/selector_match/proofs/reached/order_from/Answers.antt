use Rattle.std.proofs.Common.{ap, sym, ◌∙◌, unwrap_or}
use Rattle.std.specs.Ordering.{ordering_reverse}
use Rattle.value_model.specs.Val.{null}
use Rattle.value_model.specs.OrderLaws.{compare_reverse}
use Rattle.ejson_value.specs.View.{view}
use Rattle.selector_match.specs.Reached.{reached_view}
use Rattle.selector_match.proofs.reached.order_from.Goals as goal

pub returns : goal.returns
returns c = c.reverse.ensures ∙ (ap ordering_reverse c.order_to.ensures ∙ sym (compare_reverse (view c.args.value.now) (unwrap_or (reached_view c.args.reached) null)))
