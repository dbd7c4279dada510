use Rattle.std.proofs.Common.{◌≡◌, ◌++◌}
use Rattle.value_model.specs.Val.{fields_of}
use Rattle.ejson_value.specs.Results.{made}
use Rattle.ejson_value.specs.View.{entries}
use Rattle.modifier_apply.specs.View.{changes_view}
use Rattle.modifier_apply.specs.Reading.{paths_reading}
use Rattle.modifier_apply.proofs.reading.read_paths.Given as goal

abbrev pub invariant-loop-written : goal.invariant-loop-written
invariant-loop-written l =
    (goal.iterator-loop-written).can_next l.written-iterator × (goal.iterator-loop-written).is_finite l.written-iterator ×
    (paths_reading l.name (fields_of (entries l.initial.written-iterator)) ≡ made (λ cs. changes_view l.updates.items ++ cs) (paths_reading l.name (fields_of (entries l.written-iterator))))
