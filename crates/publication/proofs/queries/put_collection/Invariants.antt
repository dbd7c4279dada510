use Rattle.std.proofs.Common.{◌≡◌}
use Rattle.publication.specs.Ordered.{documents_in}
use Rattle.publication.specs.Putting.{published_among, put_own}
use Rattle.publication.proofs.queries.put_collection.Given as goal

abbrev pub invariant-loop-key : goal.invariant-loop-key
invariant-loop-key l =
    (goal.iterator-loop-key).can_next l.key-iterator × (goal.iterator-loop-key).is_finite l.key-iterator ×
    (put_own (published_among l.cursor (documents_in l.docs)) l.found.entries l.cursor l.key-iterator
    ≡ put_own (published_among l.cursor (documents_in l.docs)) l.initial.found.entries l.cursor l.initial.key-iterator)
