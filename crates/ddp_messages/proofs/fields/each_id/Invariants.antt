use Rattle.std.proofs.Common.{◌≡◌, drop}
use Rattle.serde_json.specs.View.{items_view}
use Rattle.ddp_messages.specs.Forms.{id_of}
use Rattle.ddp_messages.specs.Forms.{each_of}
use Rattle.ddp_messages.proofs.Each.{behind}
use Rattle.ddp_messages.proofs.fields.each_id.Given as goal

-- what was read so far, and the rest
abbrev pub invariant-loop-tree : goal.invariant-loop-tree
invariant-loop-tree l = each_of id_of (items_view l.tree-items) ≡ behind l.ids (each_of id_of (items_view (drop l.tree-index l.tree-items)))
