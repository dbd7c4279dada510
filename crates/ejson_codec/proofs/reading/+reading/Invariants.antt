use Rattle.std.proofs.Common.{◌≡◌, ◌-◌, drop}
use Rattle.serde_json.specs.View.{items_view}
use Rattle.ejson_codec.specs.Reading.{items_reading}
use Rattle.ejson_codec.proofs.Turns.{with_items}
use Rattle.ejson_codec.proofs.Fields.{AreRead}
use Rattle.ejson_codec.proofs.reading.+reading.Given as goal

-- what was read so far, and the answer to the rest
abbrev pub invariant-list-loop-tree : goal.invariant-list-loop-tree
invariant-list-loop-tree l =
    items_reading (l.levels - 1) (items_view l.tree-items) ≡ with_items l.items (items_reading (l.levels - 1) (items_view (drop l.tree-index l.tree-items)))

abbrev pub invariant-fields-loop-key : goal.invariant-fields-loop-key
invariant-fields-loop-key l = AreRead (l.levels - 1) l.members.entries l.key-iterator l.doc
