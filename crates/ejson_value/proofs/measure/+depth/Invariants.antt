use Rattle.std.proofs.Common.{◌≡◌, ℕ, ◌+◌, ◌*◌, ◌<◌, ◌^◌, max, List, ◌++◌, drop}
use Rattle.value_model.specs.Val.{vals_of, fields_of}
use Rattle.value_model.specs.Depth.{depth, vals_depth, fields_depth}
use Rattle.ejson_value.specs.declared.value.Value.{Value}
use Rattle.ejson_value.specs.View.{view, views, pairs, entries}
use Rattle.ejson_value.specs.Measure.{capped}
use Rattle.ejson_value.proofs.measure.+depth.Given as goal

abbrev pub decreases-depth : goal.decreases-depth
decreases-depth l = 4 * depth (view l.value.now)

abbrev pub decreases-document_depth : goal.decreases-document_depth
decreases-document_depth l = 4 * fields_depth (fields_of l.doc.now) + 3

abbrev pub decreases-fields_depth : goal.decreases-fields_depth
decreases-fields_depth l = 4 * fields_depth (fields_of l.doc.now) + 2

abbrev pub decreases-members_depth : goal.decreases-members_depth
decreases-members_depth l = 4 * fields_depth (fields_of (entries (pairs l.members.now))) + 1

abbrev pub decreases-table_depth : goal.decreases-table_depth
decreases-table_depth l = 4 * fields_depth (fields_of l.doc.now) + 1

abbrev pub decreases-items_depth : goal.decreases-items_depth
decreases-items_depth l = 4 * vals_depth (vals_of l.items.now) + 1

abbrev pub invariant-table_depth-loop-value : goal.invariant-table_depth-loop-value
invariant-table_depth-loop-value l =
    (goal.iterator-table_depth-loop-value).can_next l.value-iterator ×
    (goal.iterator-table_depth-loop-value).is_finite l.value-iterator ×
    ((done : List (List ℕ × Value)) × (l.initial.value-iterator ≡ done ++ l.value-iterator)) ×
    (capped (max l.deepest (fields_depth (fields_of (entries l.value-iterator)))) ≡ capped (fields_depth (fields_of (entries l.initial.value-iterator)))) × (l.deepest < 2 ^ 64)

abbrev pub invariant-members_depth-loop-member : goal.invariant-members_depth-loop-member
invariant-members_depth-loop-member l =
    (capped (max l.deepest (fields_depth (fields_of (entries (pairs (drop l.member-index l.members)))))) ≡ capped (fields_depth (fields_of (entries (pairs l.members))))) × (l.deepest < 2 ^ 64)

abbrev pub invariant-items_depth-loop-item : goal.invariant-items_depth-loop-item
invariant-items_depth-loop-item l =
    (capped (max l.deepest (vals_depth (vals_of (views (drop l.item-index l.item-items))))) ≡ capped (vals_depth (vals_of (views l.item-items)))) × (l.deepest < 2 ^ 64)
