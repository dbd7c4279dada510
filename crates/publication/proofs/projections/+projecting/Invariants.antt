use Rattle.std.proofs.Common.{◌≡◌, ℕ, ◌+◌, ◌*◌, List, [], ◌++◌, drop}
use Rattle.map_model.specs.Maps.{filter_map_entries}
use Rattle.value_model.specs.Val.{vals_of, fields_of}
use Rattle.value_model.specs.Depth.{depth, vals_depth, fields_depth}
use Rattle.ejson_value.specs.declared.value.Value.{Value}
use Rattle.ejson_value.specs.View.{view, views}
use Rattle.publication.specs.Parts.{paths_in, below}
use Rattle.publication.proofs.Walks.{elements_behind, left_of}
use Rattle.publication.proofs.projections.+projecting.Given as goal

abbrev pub decreases-project_value : goal.decreases-project_value
decreases-project_value l = 4 * depth (view l.value.now)

abbrev pub decreases-project_items : goal.decreases-project_items
decreases-project_items l = 4 * vals_depth (vals_of l.items.now) + 1

abbrev pub decreases-project_fields : goal.decreases-project_fields
decreases-project_fields l = 4 * fields_depth (fields_of l.fields.now) + 2

abbrev pub decreases-project_field : goal.decreases-project_field
decreases-project_field l = 4 * depth (view l.value.now) + 1

abbrev pub invariant-project_items-loop-item : goal.invariant-project_items-loop-item
invariant-project_items-loop-item l =
    elements_behind l.including (below l.level (paths_in l.paths)) l.left (vals_of (views (drop l.item-index l.item-items))) ≡ elements_behind l.including (below l.level (paths_in l.paths)) [] (vals_of (views l.item-items))

abbrev pub invariant-project_fields-loop-name : goal.invariant-project_fields-loop-name
invariant-project_fields-loop-name l =
    (goal.iterator-project_fields-loop-name).can_next l.name-iterator ×
    (goal.iterator-project_fields-loop-name).is_finite l.name-iterator ×
    ((done : List (List ℕ × Value)) × (l.initial.name-iterator ≡ done ++ l.name-iterator) × (l.left ≡ filter_map_entries (left_of l.including (below l.level (paths_in l.paths))) done))
