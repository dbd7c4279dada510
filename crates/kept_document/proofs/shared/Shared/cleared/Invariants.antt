use Rattle.std.proofs.Common.{◌≡◌, ℕ, List, ◌++◌}
use Rattle.std.specs.Map.{keys_of}
use Rattle.value_model.specs.Val.{Val}
use Rattle.value_model.specs.Order.{text_cmp}
use Rattle.map_model.specs.Maps.{at, filter_map_entries}
use Rattle.merge_model.specs.Kept.{merged_fields, first_value}
use Rattle.kept_document.specs.Held.{lost_of}
use Rattle.kept_document.proofs.shared.Shared.cleared.Given as goal

abbrev pub invariant-loop-name : goal.invariant-loop-name
invariant-loop-name l = record {
  can_next : goal.iterator-loop-name.can_next l.name-iterator;
  is_finite : goal.iterator-loop-name.is_finite l.name-iterator;
  done : List (List ℕ × List (ℕ × Val));
  whole : l.initial.name-iterator ≡ done ++ l.name-iterator;
  made : l.names ≡ keys_of (filter_map_entries (λ f claims. lost_of (at text_cmp (merged_fields l.before.fields) f) (first_value claims)) done);
}
