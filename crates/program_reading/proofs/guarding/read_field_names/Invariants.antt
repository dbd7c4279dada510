use Rattle.std.proofs.Common.{◌≡◌, [], drop}
use Rattle.value_model.specs.Val.{vals_of}
use Rattle.ejson_value.specs.View.{views}
use Rattle.program_reading.specs.Guarding.{field_names_behind}
use Rattle.program_reading.proofs.guarding.read_field_names.Given as goal

abbrev pub invariant-loop-item : goal.invariant-loop-item
invariant-loop-item l = field_names_behind l.place l.names (vals_of (views (drop l.item-index l.item-items))) ≡ field_names_behind l.place [] (vals_of (views l.item-items))
