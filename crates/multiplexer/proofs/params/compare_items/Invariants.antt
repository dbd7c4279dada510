use Rattle.std.proofs.Common.{◌≡◌, drop}
use Rattle.std.specs.Slice.Iter.{iter_rest}
use Rattle.value_model.specs.Val.{vals_of}
use Rattle.value_model.specs.Order.{vals_cmp}
use Rattle.ejson_value.specs.View.{views}
use Rattle.multiplexer.proofs.params.compare_items.Given as goal

abbrev pub invariant-loop-item : goal.invariant-loop-item
invariant-loop-item l = vals_cmp (vals_of (views (drop l.item-index l.item-items))) (vals_of (views (iter_rest l.others))) ≡ vals_cmp (vals_of (views l.item-items)) (vals_of (views (iter_rest l.initial.others)))
