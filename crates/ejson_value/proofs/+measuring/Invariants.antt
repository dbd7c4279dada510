use Rattle.std.proofs.Common.{◌≡◌, ℕ, ◌+◌, ◌*◌, ◌<◌, ◌^◌, List, ◌++◌, drop}
use Rattle.value_model.specs.Val.{vals_of, fields_of}
use Rattle.value_model.specs.Depth.{depth, vals_depth, fields_depth}
use Rattle.value_model.specs.Size.{vals_size, fields_size}
use Rattle.ejson_value.specs.declared.value.Value.{Value}
use Rattle.ejson_value.specs.View.{view, views, pairs, entries, held_fields}
use Rattle.ejson_value.specs.Measure.{capped}
use Rattle.ejson_value.proofs.+measuring.Given as goal

abbrev pub decreases-measure::size : goal.decreases-measure::size
decreases-measure::size l = 7 * depth (view l.value.now)

abbrev pub decreases-measure::items_size : goal.decreases-measure::items_size
decreases-measure::items_size l = 7 * vals_depth (vals_of l.items.now) + 1

abbrev pub decreases-measure::user_size : goal.decreases-measure::user_size
decreases-measure::user_size l = 7 * depth l.value.now + 1

abbrev pub decreases-measure::field_size : goal.decreases-measure::field_size
decreases-measure::field_size l = 7 * depth (view l.value.now) + 1

abbrev pub decreases-members::Members::counted : goal.decreases-members::Members::counted
decreases-members::Members::counted l = 7 * fields_depth (fields_of (held_fields l.self.now)) + 3

abbrev pub decreases-members::Members::table_size : goal.decreases-members::Members::table_size
decreases-members::Members::table_size l = 7 * fields_depth (fields_of (held_fields l.self.now)) + 2

abbrev pub decreases-measure::members_size : goal.decreases-measure::members_size
decreases-measure::members_size l = 7 * fields_depth (fields_of (entries (pairs l.members.now))) + 2

abbrev pub decreases-members::Measured::bytes : goal.decreases-members::Measured::bytes
decreases-members::Measured::bytes l = 7 * fields_depth (fields_of l.self.now) + 4

abbrev pub decreases-value::Doc::bytes : goal.decreases-value::Doc::bytes
decreases-value::Doc::bytes l = 7 * fields_depth (fields_of l.self.now) + 5

abbrev pub decreases-measure::document_size : goal.decreases-measure::document_size
decreases-measure::document_size l = 7 * fields_depth (fields_of l.doc.now) + 6

abbrev pub invariant-measure::items_size-loop-item : goal.invariant-measure::items_size-loop-item
invariant-measure::items_size-loop-item l =
    (capped (l.total + vals_size (vals_of (views (drop l.item-index l.item-items)))) ≡ capped (vals_size (vals_of (views l.item-items)))) × (l.total < 2 ^ 64)

abbrev pub invariant-measure::members_size-loop-member : goal.invariant-measure::members_size-loop-member
invariant-measure::members_size-loop-member l =
    (capped (l.total + fields_size (fields_of (entries (pairs (drop l.member-index l.members))))) ≡ capped (fields_size (fields_of (entries (pairs l.members))))) × (l.total < 2 ^ 64)

abbrev pub invariant-members::Members::table_size-loop-name : goal.invariant-members::Members::table_size-loop-name
invariant-members::Members::table_size-loop-name l =
    (goal.iterator-members::Members::table_size-loop-name).can_next l.name-iterator ×
    (goal.iterator-members::Members::table_size-loop-name).is_finite l.name-iterator ×
    ((done : List (List ℕ × Value)) × (l.initial.name-iterator ≡ done ++ l.name-iterator)) ×
    (capped (l.total + fields_size (fields_of (entries l.name-iterator))) ≡ capped (fields_size (fields_of (entries l.initial.name-iterator)))) × (l.total < 2 ^ 64)
