use Rattle.std.specs.BinaryHeap.{heap_items, heap_len}
use Rattle.std.specs.List.Sorted.{IsPermutation}
use Rattle.write_fence.specs.Index.{fences_in, AreWhole}
use Rattle.write_fence.proofs.fences.move_reached.Given as goal

abbrev pub invariant-loop-at : goal.invariant-loop-at
invariant-loop-at l = record {
  whole : AreWhole l.waiting l.reached;
  same : IsPermutation (fences_in (heap_items l.initial.waiting) (heap_items l.initial.reached)) (fences_in (heap_items l.waiting) (heap_items l.reached));
}

abbrev pub decreases-loop-at : goal.decreases-loop-at
decreases-loop-at l = heap_len l.waiting
