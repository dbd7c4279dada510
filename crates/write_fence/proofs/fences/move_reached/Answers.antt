use Rattle.std.proofs.Common.{◌∷◌, arith}
use Rattle.std.specs.BinaryHeap.{heap_items}
use Rattle.std.proofs.lemmas.List.Sorted.{IsPermutation-trans}
use Rattle.write_fence.specs.Index.{fences_in}
use Rattle.write_fence.proofs.Armed.{pop_waiting, put_reached, distinct_same}
use Rattle.write_fence.proofs.fences.move_reached.Goals as goal

pub loop-at-preserved : goal.loop-at-preserved
loop-at-preserved c =
    let ws = heap_items c.loop-at.waiting in
    let vs = heap_items c.pop_reached.new.waiting in
    let rs = heap_items c.loop-at.reached in
    let qs = heap_items c.put.new.heap in
    let whole = c.loop-at.invariant.whole in
    let moved = IsPermutation-trans (fences_in ws rs) ((c.in-Some.k, c.in-Some.at) ∷ fences_in vs rs) (fences_in vs qs)
    (pop_waiting ws vs rs (record { 0 = (c.in-Some.at, c.in-Some.k) }) c.in-Some.ensures.items)
    (put_reached vs rs qs (record { 0 = (c.in-Some.k, c.in-Some.at) }) c.put.ensures.items) in
    record {
      whole = record {
        waiting_order = c.in-Some.ensures.order;
        reached_order = c.put.ensures.order;
        waiting_room = omega (arith, whole.waiting_room, c.in-Some.ensures.len, c.in-Some.ensures.capacity, c.put.ensures.len);
        reached_room = omega (arith, whole.reached_room, c.in-Some.ensures.len, c.put.ensures.len, c.put.ensures.capacity);
        distinct = distinct_same (fences_in ws rs) (fences_in vs qs) moved whole.distinct;
      };
      same = IsPermutation-trans _ (fences_in ws rs) (fences_in vs qs) c.loop-at.invariant.same moved;
    }
