use Rattle.std.specs.BinaryHeap.{heap_items}
use Rattle.write_fence.specs.Index.{fences_in}
use Rattle.write_fence.proofs.Armed.{sorted-armed}
use Rattle.write_fence.proofs.fences.Fences.known.Goals as goal

pub returns : goal.returns
returns c = rw (← c.self.view_is) (sorted-armed (fences_in (heap_items c.self.inside.waiting) (heap_items c.self.inside.reached)))
