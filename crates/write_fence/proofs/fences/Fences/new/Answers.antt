use Rattle.std.proofs.Common.{arith}
use Rattle.write_fence.proofs.Armed.{distinct_none}
use Rattle.write_fence.proofs.fences.Fences.new.Goals as goal

pub invariant_of-result : goal.invariant_of-result
invariant_of-result c = record {
  waiting_order = c.new.ensures.heap_order;
  reached_order = c.new-2.ensures.heap_order;
  waiting_room = omega (arith, c.new.ensures.len, c.new-2.ensures.len);
  reached_room = omega (arith, c.new.ensures.len, c.new-2.ensures.len);
  distinct = rw (c.new.ensures.items, c.new-2.ensures.items) distinct_none;
}
