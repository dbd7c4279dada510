use Rattle.std.proofs.Common.{◌≡◌, not, filter, take}
use Rattle.selector_match.specs.Holds.{fits}
use Rattle.ejson_value.specs.View.{views}
use Rattle.modifier_apply.proofs.edits.without_passing.Given as goal

abbrev pub invariant-loop-item : goal.invariant-loop-item
invariant-loop-item l = l.kept ≡ filter (λ v. not (fits l.test v)) (views (take l.item-index l.item-items))
