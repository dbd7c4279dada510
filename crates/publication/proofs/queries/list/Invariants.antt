use Rattle.std.proofs.Common.{◌≡◌, []}
use Rattle.publication.specs.Putting.{listed_behind}
use Rattle.publication.proofs.queries.list.Given as goal

abbrev pub invariant-loop-key : goal.invariant-loop-key
invariant-loop-key l =
    (goal.iterator-loop-key).can_next l.key-iterator × (goal.iterator-loop-key).is_finite l.key-iterator ×
    (listed_behind l.answer l.key-iterator ≡ listed_behind [] l.initial.key-iterator)
