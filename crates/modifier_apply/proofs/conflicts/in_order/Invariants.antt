use Rattle.std.proofs.Common.{◌≡◌, ◌++◌, drop}
use Rattle.modifier_apply.specs.View.{changes_view}
use Rattle.modifier_apply.specs.Modified.{paths_of, conflicts}
use Rattle.modifier_apply.proofs.conflicts.in_order.Given as goal

abbrev pub invariant-loop-update : goal.invariant-loop-update
invariant-loop-update l = conflicts (l.paths.keys ++ paths_of (changes_view (drop l.update-index l.updates))) ≡ conflicts (paths_of (changes_view l.updates))
