use Rattle.std.proofs.Common.{◌≡◌, ℕ, List, [], ◌++◌, length}
use Rattle.std.specs.Map.{keys_of}
use Rattle.value_model.specs.Val.{Val}
use Rattle.value_model.specs.Order.{text_cmp}
use Rattle.map_model.specs.Maps.{filter_map_entries}
use Rattle.ejson_value.specs.View.{entries}
use Rattle.kept_document.specs.Held.{new_of, lost_of}
use Rattle.kept_document.specs.Sides.{Both, side_by_side}
use Rattle.kept_document.proofs.differences.changed_values.Given as goal

abbrev pub invariant-loop-name : goal.invariant-loop-name
invariant-loop-name l = record {
  done : List (List ℕ × Both Val Val);
  whole : side_by_side text_cmp l.before l.after ≡ done ++ side_by_side text_cmp (entries l.olds) (entries l.news);
  new : l.fields ≡ filter_map_entries (λ f b. new_of b.0 b.1) done;
  lost : keys_of (filter_map_entries (λ f b. lost_of b.0 b.1) done) ≡ [];
}

abbrev pub decreases-loop-name : goal.decreases-loop-name
decreases-loop-name l = length l.news
