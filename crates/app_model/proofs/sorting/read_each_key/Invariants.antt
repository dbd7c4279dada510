use Rattle.std.proofs.Common.{◌≡◌, [], drop}
use Rattle.value_model.specs.Val.{vals_of}
use Rattle.ejson_value.specs.View.{views}
use Rattle.app_model.specs.Sorting.{keys_behind}
use Rattle.app_model.proofs.sorting.read_each_key.Given as goal

abbrev pub invariant-loop-item : goal.invariant-loop-item
invariant-loop-item l = keys_behind l.place l.keys (vals_of (views (drop l.item-index l.item-items))) ≡ keys_behind l.place [] (vals_of (views l.item-items))
