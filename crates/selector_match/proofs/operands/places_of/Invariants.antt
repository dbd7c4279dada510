use Rattle.std.proofs.Common.{◌≡◌, ◌++◌, drop}
use Rattle.ejson_value.specs.View.{views}
use Rattle.selector_match.specs.Operands.{picked}
use Rattle.selector_match.proofs.operands.places_of.Given as goal

abbrev pub invariant-loop-value : goal.invariant-loop-value
invariant-loop-value l = views l.written ≡ picked (views l.rising) l.places.items ++ views (drop l.value-index l.written)
