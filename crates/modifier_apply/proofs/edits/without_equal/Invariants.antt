use Rattle.std.proofs.Common.{◌≡◌, not, filter, take}
use Rattle.ejson_value.specs.View.{view, views}
use Rattle.modifier_apply.specs.Modified.{same}
use Rattle.modifier_apply.proofs.edits.without_equal.Given as goal

abbrev pub invariant-loop-item : goal.invariant-loop-item
invariant-loop-item l = l.kept ≡ filter (λ v. not (same v (view l.operand))) (views (take l.item-index l.item-items))
