use Rattle.std.specs.Prelude.{filter}
use Rattle.std.proofs.Common.{◌≡◌, ◌++◌}
use Rattle.value_model.specs.Val.{Entries}
use Rattle.ejson_value.specs.declared.key.Key.{Key}
use Rattle.ejson_value.specs.Changes.{news_of}
use Rattle.selector_match.specs.Holds.{holds}
use Rattle.minimongo.specs.Finding.{published}
use Rattle.minimongo.proofs.finding.find_in.Given as goal

abbrev pub invariant-loop-key : goal.invariant-loop-key
invariant-loop-key l =
    (goal.iterator-loop-key).can_next l.key-iterator × (goal.iterator-loop-key).is_finite l.key-iterator ×
    (news_of l.found ++ published (filter (λ (row : Key × Entries). holds l.selector row.0.id row.1) l.key-iterator) ≡ published (filter (λ (row : Key × Entries). holds l.selector row.0.id row.1) l.initial.key-iterator))
