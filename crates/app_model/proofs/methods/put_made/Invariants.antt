use Rattle.std.proofs.Common.{◌≡◌}
use Rattle.app_model.specs.Reading.{with_made}
use Rattle.app_model.proofs.methods.put_made.Given as goal

abbrev pub invariant-loop-collection : goal.invariant-loop-collection
invariant-loop-collection l =
    (goal.iterator-loop-collection).can_next l.collection-iterator × (goal.iterator-loop-collection).is_finite l.collection-iterator ×
    (with_made l.methods.entries l.collection-iterator ≡ with_made l.initial.methods.entries l.initial.collection-iterator)
