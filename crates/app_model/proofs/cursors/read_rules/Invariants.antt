use Rattle.std.proofs.Common.{◌≡◌, [], drop}
use Rattle.value_model.specs.Val.{vals_of}
use Rattle.ejson_value.specs.View.{views}
use Rattle.app_model.specs.Reading.{rules_behind}
use Rattle.app_model.proofs.cursors.read_rules.Given as goal

abbrev pub invariant-loop-item : goal.invariant-loop-item
invariant-loop-item l = rules_behind l.collections l.place l.rules (vals_of (views (drop l.item-index l.item-items))) ≡ rules_behind l.collections l.place [] (vals_of (views l.item-items))
