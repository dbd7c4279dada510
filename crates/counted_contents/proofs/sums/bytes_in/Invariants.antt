use Rattle.std.proofs.Common.{◌≡◌, ◌+◌, ◌<◌, ◌^◌}
use Rattle.ejson_value.specs.Measure.{capped}
use Rattle.collection_store.specs.Limits.{bytes_of}
use Rattle.counted_contents.proofs.sums.bytes_in.Given as goal

abbrev pub invariant-loop-doc : goal.invariant-loop-doc
invariant-loop-doc l =
    (goal.iterator-loop-doc).can_next l.doc-iterator × (goal.iterator-loop-doc).is_finite l.doc-iterator ×
    (capped (l.total + bytes_of l.doc-iterator) ≡ capped (bytes_of l.initial.doc-iterator)) × (l.total < 2 ^ 64)
