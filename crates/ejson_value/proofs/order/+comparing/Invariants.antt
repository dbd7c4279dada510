use Rattle.std.proofs.Common.{◌≡◌, ℕ, ◌+◌, ◌*◌, List, ◌++◌, drop}
use Rattle.value_model.specs.Val.{vals_of, fields_of}
use Rattle.value_model.specs.Depth.{depth, vals_depth, fields_depth}
use Rattle.value_model.specs.Order.{vals_cmp, fields_cmp}
use Rattle.ejson_value.specs.declared.value.Value.{Value}
use Rattle.ejson_value.specs.View.{view, views, entries}
use Rattle.std.specs.Slice.Iter.{iter_rest}
use Rattle.ejson_value.proofs.order.+comparing.Given as goal

abbrev pub decreases-compare : goal.decreases-compare
decreases-compare l = 2 * depth (view l.a.now)

abbrev pub decreases-compare_docs : goal.decreases-compare_docs
decreases-compare_docs l = 2 * fields_depth (fields_of l.a.now) + 1

abbrev pub decreases-compare_lists : goal.decreases-compare_lists
decreases-compare_lists l = 2 * vals_depth (vals_of l.a.now) + 1

abbrev pub invariant-compare_docs-loop-name : goal.invariant-compare_docs-loop-name
invariant-compare_docs-loop-name l =
    (goal.iterator-compare_docs-loop-name).can_next l.name-iterator ×
    (goal.iterator-compare_docs-loop-name).is_finite l.name-iterator ×
    ((done : List (List ℕ × Value)) × (l.initial.name-iterator ≡ done ++ l.name-iterator)) ×
    (fields_cmp (fields_of (entries l.name-iterator)) (fields_of (entries l.others)) ≡ fields_cmp (fields_of (entries l.initial.name-iterator)) (fields_of (entries l.initial.others)))

abbrev pub invariant-compare_lists-loop-item : goal.invariant-compare_lists-loop-item
invariant-compare_lists-loop-item l =
    vals_cmp (vals_of (views (drop l.item-index l.item-items))) (vals_of (views (iter_rest l.others))) ≡ vals_cmp (vals_of (views l.item-items)) (vals_of (views (iter_rest l.initial.others)))
