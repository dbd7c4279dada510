use Rattle.std.proofs.Common.{◌≡◌, drop}
use Rattle.serde_json.specs.View.{items_view}
use Rattle.serde_json.specs.Find.{as_str}
use Rattle.ddp_messages.specs.Forms.{each_of}
use Rattle.ddp_messages.proofs.Each.{behind}
use Rattle.ddp_messages.proofs.fields.each_text.Given as goal

-- what was read so far, and the rest
abbrev pub invariant-loop-tree : goal.invariant-loop-tree
invariant-loop-tree l = each_of as_str (items_view l.tree-items) ≡ behind l.texts (each_of as_str (items_view (drop l.tree-index l.tree-items)))
