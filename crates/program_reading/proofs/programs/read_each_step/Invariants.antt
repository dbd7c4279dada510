use Rattle.std.proofs.Common.{◌≡◌, [], drop}
use Rattle.value_model.specs.Val.{vals_of}
use Rattle.ejson_value.specs.View.{views}
use Rattle.program_reading.specs.Programs.{steps_behind}
use Rattle.program_reading.proofs.programs.read_each_step.Given as goal

abbrev pub invariant-loop-item : goal.invariant-loop-item
invariant-loop-item l = steps_behind l.collections l.place l.steps (vals_of (views (drop l.item-index l.item-items))) ≡ steps_behind l.collections l.place [] (vals_of (views l.item-items))
