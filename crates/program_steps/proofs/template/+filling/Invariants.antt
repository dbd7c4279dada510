use Rattle.std.proofs.Common.{◌≡◌, ℕ, ◌+◌, ◌*◌, List, ◌++◌, drop}
use Rattle.std.specs.Map.{keys_of}
use Rattle.value_model.specs.Val.{vals_of, fields_of, val}
use Rattle.value_model.specs.Depth.{depth, vals_depth, fields_depth}
use Rattle.ejson_value.specs.declared.value.Value.{Value}
use Rattle.ejson_value.specs.View.{view, views, entries}
use Rattle.ejson_value.specs.Results.{made, after}
use Rattle.program_steps.specs.Template.{items_filling, fields_filling}
use Rattle.program_steps.proofs.Front.{field_before}
use Rattle.program_steps.proofs.template.+filling.Given as goal

abbrev pub decreases-fill_value : goal.decreases-fill_value
decreases-fill_value l = 4 * depth (view l.template.now)

abbrev pub decreases-fill_object : goal.decreases-fill_object
decreases-fill_object l = 4 * fields_depth (fields_of l.fields.now) + 2

abbrev pub decreases-fill_items : goal.decreases-fill_items
decreases-fill_items l = 4 * vals_depth (vals_of l.items.now) + 1

abbrev pub decreases-fill_fields : goal.decreases-fill_fields
decreases-fill_fields l = 4 * fields_depth (fields_of l.fields.now) + 1

abbrev pub invariant-fill_items-loop-item : goal.invariant-fill_items-loop-item
invariant-fill_items-loop-item l =
    items_filling l.params l.ids (vals_of (views l.item-items)) ≡ made (λ q. after val l.filled q) (items_filling l.params l.ids (vals_of (views (drop l.item-index l.item-items))))

abbrev pub invariant-fill_fields-loop-name : goal.invariant-fill_fields-loop-name
invariant-fill_fields-loop-name l =
    (goal.iterator-fill_fields-loop-name).can_next l.name-iterator ×
    (goal.iterator-fill_fields-loop-name).is_finite l.name-iterator ×
    ((done : List (List ℕ × Value)) × (l.initial.name-iterator ≡ done ++ l.name-iterator) × (keys_of l.filled ≡ keys_of done)) ×
    (fields_filling l.params l.ids (fields_of (entries l.initial.name-iterator)) ≡ made (λ q. after field_before l.filled q) (fields_filling l.params l.ids (fields_of (entries l.name-iterator))))
