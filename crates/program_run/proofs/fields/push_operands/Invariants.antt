use Rattle.std.proofs.Common.{◌≡◌}
use Rattle.value_model.specs.Val.{fields_of}
use Rattle.ejson_value.specs.View.{entries}
use Rattle.program_run.specs.Parts.{operands_behind}
use Rattle.program_run.proofs.fields.push_operands.Given as goal

abbrev pub invariant-loop-operand : goal.invariant-loop-operand
invariant-loop-operand l =
    (goal.iterator-loop-operand).can_next l.operand-iterator × (goal.iterator-loop-operand).is_finite l.operand-iterator ×
    (operands_behind l.parts (fields_of (entries l.operand-iterator)) ≡ operands_behind l.initial.parts (fields_of (entries l.initial.operand-iterator)))
