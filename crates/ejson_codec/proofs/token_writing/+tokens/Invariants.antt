use Rattle.std.proofs.Common.{◌≡◌, ℕ, ◌+◌, ◌*◌, List, ◌++◌, drop}
use Rattle.value_model.specs.Val.{vals_of, fields_of}
use Rattle.value_model.specs.Depth.{depth, vals_depth, fields_depth}
use Rattle.ejson_value.specs.declared.value.Value.{Value}
use Rattle.ejson_value.specs.View.{view}
use Rattle.ejson_codec.proofs.WriterTurns.{rest_of_items, rest_of_fields}
use Rattle.ejson_codec.proofs.token_writing.+tokens.Given as goal

abbrev pub decreases-put_value : goal.decreases-put_value
decreases-put_value l = 3 * depth (view l.value.now)

abbrev pub decreases-put_items : goal.decreases-put_items
decreases-put_items l = 3 * vals_depth (vals_of l.items.now) + 2

abbrev pub decreases-put_document : goal.decreases-put_document
decreases-put_document l = 3 * fields_depth (fields_of l.doc.now) + 2

abbrev pub decreases-put_fields : goal.decreases-put_fields
decreases-put_fields l = 3 * fields_depth (fields_of l.doc.now) + 1

abbrev pub invariant-put_items-loop-item : goal.invariant-put_items-loop-item
invariant-put_items-loop-item l = l.out ++ rest_of_items (drop l.item-index l.item-items) ≡ l.initial.out ++ rest_of_items l.item-items

abbrev pub invariant-put_fields-loop-name : goal.invariant-put_fields-loop-name
invariant-put_fields-loop-name l =
    (done : List (List ℕ × Value)) × (l.initial.name-iterator ≡ done ++ l.name-iterator)
    × (l.out ++ rest_of_fields l.name-iterator ≡ l.initial.out ++ rest_of_fields l.initial.name-iterator)
