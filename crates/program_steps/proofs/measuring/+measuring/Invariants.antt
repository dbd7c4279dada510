use Rattle.std.proofs.Common.{◌≡◌, ℕ, ◌+◌, ◌*◌, ◌<◌, ◌^◌, List, ◌++◌, drop}
use Rattle.value_model.specs.Val.{vals_of, fields_of}
use Rattle.value_model.specs.Depth.{depth, vals_depth, fields_depth}
use Rattle.ejson_value.specs.declared.value.Value.{Value}
use Rattle.ejson_value.specs.View.{view, views, entries}
use Rattle.ejson_value.specs.Results.{made}
use Rattle.program_steps.specs.Measuring.{items_measuring, fields_measuring}
use Rattle.program_steps.proofs.Extents.{behind}
use Rattle.program_steps.proofs.measuring.+measuring.Given as goal

abbrev pub decreases-measure_value : goal.decreases-measure_value
decreases-measure_value l = 4 * depth (view l.template.now)

abbrev pub decreases-measure_object : goal.decreases-measure_object
decreases-measure_object l = 4 * fields_depth (fields_of l.fields.now) + 2

abbrev pub decreases-measure_items : goal.decreases-measure_items
decreases-measure_items l = 4 * vals_depth (vals_of l.items.now) + 1

abbrev pub decreases-measure_fields : goal.decreases-measure_fields
decreases-measure_fields l = 4 * fields_depth (fields_of l.fields.now) + 1

abbrev pub invariant-measure_items-loop-item : goal.invariant-measure_items-loop-item
invariant-measure_items-loop-item l =
    (made (behind l.so_far) (items_measuring l.params l.ids (vals_of (views (drop l.item-index l.item-items)))) ≡ items_measuring l.params l.ids (vals_of (views l.item-items))) ×
    (l.so_far.depth < 2 ^ 64) × (l.so_far.size < 2 ^ 64)

abbrev pub invariant-measure_fields-loop-name : goal.invariant-measure_fields-loop-name
invariant-measure_fields-loop-name l =
    (goal.iterator-measure_fields-loop-name).can_next l.name-iterator ×
    (goal.iterator-measure_fields-loop-name).is_finite l.name-iterator ×
    ((done : List (List ℕ × Value)) × (l.initial.name-iterator ≡ done ++ l.name-iterator)) ×
    (made (behind l.so_far) (fields_measuring l.params l.ids (fields_of (entries l.name-iterator))) ≡ fields_measuring l.params l.ids (fields_of (entries l.initial.name-iterator))) ×
    (l.so_far.depth < 2 ^ 64) × (l.so_far.size < 2 ^ 64)
