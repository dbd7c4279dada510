use Rattle.std.proofs.Common.{◌≡◌, ℕ, ◌+◌, ◌*◌, List, ◌++◌, take}
use Rattle.serde_json.specs.View.{items_view, members_view}
use Rattle.value_model.specs.Val.{vals_of, fields_of}
use Rattle.value_model.specs.Depth.{depth, vals_depth, fields_depth}
use Rattle.ejson_value.specs.declared.value.Value.{Value}
use Rattle.ejson_value.specs.View.{view, views, entries}
use Rattle.ejson_codec.specs.Written.{items_written, members_written}
use Rattle.ejson_codec.proofs.writing.+writing.Given as goal

abbrev pub decreases-tree : goal.decreases-tree
decreases-tree l = 2 * depth (view l.value.now)

abbrev pub decreases-trees : goal.decreases-trees
decreases-trees l = 2 * vals_depth (vals_of l.items.now) + 1

abbrev pub decreases-members : goal.decreases-members
decreases-members l = 2 * fields_depth (fields_of l.doc.now) + 1

abbrev pub invariant-trees-loop-item : goal.invariant-trees-loop-item
invariant-trees-loop-item l = items_view l.trees.items ≡ items_written (vals_of (views (take l.item-index l.item-items)))

abbrev pub invariant-members-loop-name : goal.invariant-members-loop-name
invariant-members-loop-name l = (done : List (List ℕ × Value)) × (l.initial.name-iterator ≡ done ++ l.name-iterator) × (members_view l.members.entries ≡ members_written (fields_of (entries done)))
