use Rattle.std.proofs.Common.{◌≡◌, take}
use Rattle.std.specs.List.{list_any}
use Rattle.std.specs.BTreeSet.{contains}
use Rattle.value_model.specs.Val.{Val}
use Rattle.value_model.specs.Order.{compare}
use Rattle.ejson_value.specs.View.{views}
use Rattle.modifier_apply.specs.Modified.{same}
use Rattle.modifier_apply.proofs.missing.in_order.Given as goal

abbrev pub invariant-loop-value : goal.invariant-loop-value
invariant-loop-value l = (q : Val) → contains compare l.seen q ≡ list_any (λ v. same v q) (views (take l.value-index l.value-items))
