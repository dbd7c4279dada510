use Rattle.std.proofs.Common.{◌≡◌, take}
use Rattle.ejson_value.specs.View.{views}
use Rattle.ejson_value.proofs.value.copies.Given as goal

abbrev pub invariant-loop-item : goal.invariant-loop-item
invariant-loop-item l = views l.copies.items ≡ views (take l.item-index l.items)
