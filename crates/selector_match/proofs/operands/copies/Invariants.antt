use Rattle.std.proofs.Common.{◌≡◌, take}
use Rattle.ejson_value.specs.View.{views}
use Rattle.selector_match.proofs.operands.copies.Given as goal

abbrev pub invariant-loop-value : goal.invariant-loop-value
invariant-loop-value l = views l.copied.items ≡ views (take l.value-index l.values)
