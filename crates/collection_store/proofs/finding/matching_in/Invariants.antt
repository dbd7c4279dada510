use Rattle.std.specs.Prelude.{filter}
use Rattle.std.proofs.Common.{◌≡◌, ◌++◌, [], false}
use Rattle.selector_match.specs.Holds.{holds}
use Rattle.collection_store.specs.Applied.{Row}
use Rattle.collection_store.specs.Finding.{rows_in}
use Rattle.collection_store.proofs.finding.matching_in.Given as goal

abbrev pub invariant-loop-key : goal.invariant-loop-key
invariant-loop-key l =
    (goal.iterator-loop-key).can_next l.key-iterator × (goal.iterator-loop-key).is_finite l.key-iterator ×
    (rows_in l.found.items ++ filter (λ (row : Row). holds l.selector row.0.id row.1) l.key-iterator ≡ filter (λ (row : Row). holds l.selector row.0.id row.1) l.initial.key-iterator) ×
    (l.all ≡ false → rows_in l.found.items ≡ [])
