use Rattle.std.proofs.Common.{◌≡◌, [], drop}
use Rattle.value_model.specs.Val.{vals_of}
use Rattle.ejson_value.specs.View.{views}
use Rattle.app_model.specs.Reading.{names_behind}
use Rattle.app_model.proofs.app.read_names.Given as goal

abbrev pub invariant-loop-item : goal.invariant-loop-item
invariant-loop-item l = names_behind l.names (vals_of (views (drop l.item-index l.item-items))) ≡ names_behind [] (vals_of (views l.item-items))
