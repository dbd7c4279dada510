use Rattle.std.proofs.Common.{sym, subst}
use Rattle.std.specs.List.Sorted.{IsStrictlySortedBy}
use Rattle.map_model.specs.MapLaws.{sorted-nil}
use Rattle.ejson_value.specs.Key.{key_cmp}
use Rattle.stub_simulation.proofs.key_set.KeySet.new.Goals as goal

pub invariant_of-result : goal.invariant_of-result
invariant_of-result c = subst (IsStrictlySortedBy key_cmp) (sym c.new.ensures.items) (sorted-nil key_cmp)
