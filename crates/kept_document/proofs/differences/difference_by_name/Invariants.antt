use Rattle.std.proofs.Common.{◌≡◌, ℕ, List, ◌++◌, length}
use Rattle.std.specs.Map.{keys_of}
use Rattle.value_model.specs.Val.{Val}
use Rattle.value_model.specs.Order.{text_cmp}
use Rattle.map_model.specs.Maps.{filter_map_entries}
use Rattle.kept_document.specs.Held.{new_of, lost_of}
use Rattle.kept_document.specs.Sides.{Both, side_by_side, pairs_left}
use Rattle.kept_document.proofs.differences.difference_by_name.Given as goal

abbrev pub invariant-loop-pair : goal.invariant-loop-pair
invariant-loop-pair l = record {
  done : List (List ℕ × Both Val Val);
  whole : side_by_side text_cmp l.before l.after ≡ done ++ pairs_left l.pairs.before l.pairs.before_rest l.pairs.after l.pairs.after_rest;
  new : l.fields ≡ filter_map_entries (λ f b. new_of b.0 b.1) done;
  lost : l.names ≡ keys_of (filter_map_entries (λ f b. lost_of b.0 b.1) done);
}

abbrev pub decreases-loop-pair : goal.decreases-loop-pair
decreases-loop-pair l = length (pairs_left l.pairs.before l.pairs.before_rest l.pairs.after l.pairs.after_rest)
