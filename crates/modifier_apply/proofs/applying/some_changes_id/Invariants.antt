use Rattle.std.proofs.Common.{◌≡◌, false, take}
use Rattle.std.specs.List.{list_any}
use Rattle.modifier_apply.specs.View.{change_view}
use Rattle.modifier_apply.specs.Modified.{changes_id}
use Rattle.modifier_apply.proofs.applying.some_changes_id.Given as goal

abbrev pub invariant-loop-update : goal.invariant-loop-update
invariant-loop-update l = list_any (λ u. changes_id (change_view u)) (take l.update-index l.updates) ≡ false
