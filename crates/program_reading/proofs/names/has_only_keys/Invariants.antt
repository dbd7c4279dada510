use Rattle.std.proofs.Common.{◌≡◌}
use Rattle.value_model.specs.Val.{fields_of}
use Rattle.ejson_value.specs.View.{entries}
use Rattle.program_reading.specs.Names.{has_only_keys}
use Rattle.program_reading.proofs.names.has_only_keys.Given as goal

abbrev pub invariant-loop-key : goal.invariant-loop-key
invariant-loop-key l =
    (goal.iterator-loop-key).can_next l.key-iterator × (goal.iterator-loop-key).is_finite l.key-iterator ×
    (has_only_keys l.shape (fields_of (entries l.initial.key-iterator)) ≡ has_only_keys l.shape (fields_of (entries l.key-iterator)))
