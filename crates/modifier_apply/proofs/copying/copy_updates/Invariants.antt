use Rattle.std.proofs.Common.{◌≡◌, take}
use Rattle.modifier_apply.specs.View.{changes_view}
use Rattle.modifier_apply.proofs.copying.copy_updates.Given as goal

abbrev pub invariant-loop-update : goal.invariant-loop-update
invariant-loop-update l = changes_view l.copies.items ≡ changes_view (take l.update-index l.update-items)
