use Rattle.std.proofs.Common.{◌∷◌, length}
use Rattle.std.specs.Map.{keys_of}
use Rattle.std.specs.List.Sorted.{IsStrictlySortedBy}
use Rattle.value_model.specs.Order.{text_cmp}
use Rattle.live_observer.specs.Answering.{as_told}
use Rattle.live_observer.proofs.told.rise_from.Given as goal

abbrev pub invariant-loop-next : goal.invariant-loop-next
invariant-loop-next l = record {
  whole : IsStrictlySortedBy text_cmp (l.last ∷ keys_of (as_told l.rest)) → IsStrictlySortedBy text_cmp (l.id ∷ keys_of (as_told l.shown));
}

abbrev pub decreases-loop-next : goal.decreases-loop-next
decreases-loop-next l = length l.rest
