use Rattle.std.proofs.Common.{◌≡◌, [], drop}
use Rattle.value_model.specs.Val.{vals_of}
use Rattle.ejson_value.specs.View.{views}
use Rattle.program_reading.specs.Guarding.{rules_behind}
use Rattle.program_reading.proofs.guarding.read_each_rule.Given as goal

abbrev pub invariant-loop-item : goal.invariant-loop-item
invariant-loop-item l = rules_behind l.place l.rules (vals_of (views (drop l.item-index l.item-items))) ≡ rules_behind l.place [] (vals_of (views l.item-items))
