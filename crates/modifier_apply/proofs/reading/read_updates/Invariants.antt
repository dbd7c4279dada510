use Rattle.std.proofs.Common.{◌≡◌, ◌++◌}
use Rattle.value_model.specs.Val.{fields_of}
use Rattle.ejson_value.specs.Results.{made}
use Rattle.ejson_value.specs.View.{entries}
use Rattle.modifier_apply.specs.View.{changes_view}
use Rattle.modifier_apply.specs.Reading.{changes_reading}
use Rattle.modifier_apply.proofs.reading.read_updates.Given as goal

abbrev pub invariant-loop-name : goal.invariant-loop-name
invariant-loop-name l =
    (goal.iterator-loop-name).can_next l.name-iterator × (goal.iterator-loop-name).is_finite l.name-iterator ×
    (changes_reading (fields_of (entries l.initial.name-iterator)) ≡ made (λ cs. changes_view l.updates.items ++ cs) (changes_reading (fields_of (entries l.name-iterator))))
