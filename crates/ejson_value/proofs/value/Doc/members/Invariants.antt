use Rattle.std.proofs.Common.{◌≡◌, ◌++◌}
use Rattle.ejson_value.specs.View.{entries, pairs}
use Rattle.ejson_value.proofs.value.Doc.members.Given as goal

abbrev pub invariant-loop-name : goal.invariant-loop-name
invariant-loop-name l =
    (goal.iterator-loop-name).can_next l.name-iterator × (goal.iterator-loop-name).is_finite l.name-iterator ×
    (entries (pairs l.members.items) ++ entries l.name-iterator ≡ entries l.initial.name-iterator)
