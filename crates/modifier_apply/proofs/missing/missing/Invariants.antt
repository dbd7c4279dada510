use Rattle.std.proofs.Common.{◌≡◌, ◌++◌, drop}
use Rattle.std.specs.List.{list_any}
use Rattle.std.specs.BTreeSet.{contains}
use Rattle.value_model.specs.Val.{Val}
use Rattle.value_model.specs.Order.{compare}
use Rattle.ejson_value.specs.View.{views}
use Rattle.modifier_apply.specs.Modified.{same, with_missing}
use Rattle.modifier_apply.proofs.missing.missing.Given as goal

abbrev pub invariant-loop-value : goal.invariant-loop-value
invariant-loop-value l = record {
  seen : (q : Val) → contains compare l.seen q ≡ list_any (λ v. same v q) (l.items ++ l.missing.items);
  left : with_missing (views (drop l.value-index l.value-items)) (l.items ++ l.missing.items) ≡ with_missing (views l.value-items) l.items;
}
