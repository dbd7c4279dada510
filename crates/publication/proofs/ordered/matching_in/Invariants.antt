use Rattle.std.specs.Prelude.{filter, map}
use Rattle.std.proofs.Common.{◌≡◌, ◌++◌, List, ℕ}
use Rattle.value_model.specs.Val.{Entries}
use Rattle.selector_match.specs.Holds.{holds}
use Rattle.publication.specs.Published.{document_of}
use Rattle.publication.specs.Ordered.{documents_in}
use Rattle.publication.proofs.ordered.matching_in.Given as goal

abbrev pub invariant-loop-key : goal.invariant-loop-key
invariant-loop-key l =
    (goal.iterator-loop-key).can_next l.key-iterator × (goal.iterator-loop-key).is_finite l.key-iterator ×
    (documents_in l.docs.items ++ filter (λ (doc : List ℕ × Entries). holds l.cursor.selector doc.0 doc.1) (map document_of l.key-iterator)
    ≡ filter (λ (doc : List ℕ × Entries). holds l.cursor.selector doc.0 doc.1) (map document_of l.initial.key-iterator))
