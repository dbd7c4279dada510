use Rattle.std.proofs.Common.{All}
use Rattle.std.specs.BinaryHeap.{heap_items, heap_len}
use Rattle.std.specs.List.Sorted.{IsPermutation}
use Rattle.write_fence.specs.Fences.{IsReached}
use Rattle.write_fence.specs.Index.{fences_in, AreWhole}
use Rattle.write_fence.proofs.fences.pop_least.Given as goal

abbrev pub invariant-loop-k : goal.invariant-loop-k
invariant-loop-k l = record {
  whole : AreWhole l.waiting l.reached;
  same : IsPermutation (fences_in (heap_items l.initial.waiting) (heap_items l.initial.reached)) (fences_in (heap_items l.waiting) (heap_items l.reached));
  none : All (λ p. ¬ IsReached l.least p.0.0) (heap_items l.waiting);
}

abbrev pub decreases-loop-k : goal.decreases-loop-k
decreases-loop-k l = heap_len l.reached
