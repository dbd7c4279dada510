use Rattle.std.specs.Prelude.{filter, not, ◌&&◌}
use Rattle.std.proofs.Common.{◌≡◌}
use Rattle.selector_match.specs.Holds.{holds}
use Rattle.collection_store.specs.Applied.{Row}
use Rattle.stub_simulation.specs.Drafts.{is_changed, all_put}
use Rattle.stub_simulation.proofs.finding.put_fresh.Given as goal

abbrev pub invariant-loop-key : goal.invariant-loop-key
invariant-loop-key l = record {
  can_next : goal.iterator-loop-key.can_next l.key-iterator;
  is_finite : goal.iterator-loop-key.is_finite l.key-iterator;
  left : all_put l.found (filter (λ (row : Row). not (is_changed l.draft row.0) && holds l.selector row.0.id row.1) l.key-iterator) ≡ all_put l.initial.found (filter (λ (row : Row). not (is_changed l.draft row.0) && holds l.selector row.0.id row.1) l.initial.key-iterator);
}
