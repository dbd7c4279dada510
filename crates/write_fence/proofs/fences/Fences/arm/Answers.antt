use Rattle.std.proofs.Common.{◌≡◌, None, refl, ◌∙◌, arith}
use Rattle.std.specs.BinaryHeap.{heap_items}
use Rattle.map_model.specs.Maps.{at}
use Rattle.std.specs.Ordering.{nat_cmp}
use Rattle.write_fence.specs.Index.{fences_in}
use Rattle.write_fence.proofs.Armed.{armed, Distinct, put_waiting, distinct_more, armed_more}
use Rattle.write_fence.proofs.fences.Fences.arm.Goals as goal

pub invariant_of-self-2 : goal.invariant_of-self-2
invariant_of-self-2 c =
    let ws = heap_items c.reserve.new.self in
    let rs = heap_items c.reserve-2.new.self in
    let free : at nat_cmp (armed (fences_in ws rs)) c.args.k ≡ None = rw (c.in_ok-reserve.ensures.items, c.in_ok-reserve-2.ensures.items, c.self.view_is) c.requires in
    let was : Distinct (fences_in ws rs) = rw (c.in_ok-reserve.ensures.items, c.in_ok-reserve-2.ensures.items) c.self.invariant.distinct in
    record {
      waiting_order = c.put.ensures.order;
      reached_order = rw (c.in_ok-reserve-2.ensures.items) c.self.invariant.reached_order;
      waiting_room = omega (arith, c.put.ensures.len, c.put.ensures.capacity, c.in_ok-reserve.ensures.ok, c.in_ok-reserve.ensures.len, c.in_ok-reserve-2.ensures.len, c.len.ensures);
      reached_room = omega (arith, c.put.ensures.len, c.in_ok-reserve-2.ensures.ok, c.in_ok-reserve.ensures.len, c.in_ok-reserve-2.ensures.len, c.len-2.ensures);
      distinct = distinct_more (fences_in ws rs) _ c.args.k c.args.at (put_waiting ws _ rs _ c.put.ensures.items) was free;
    }

pub returns-clause-ok : goal.returns-clause-ok
returns-clause-ok c =
    let ws = heap_items c.reserve.new.self in
    let rs = heap_items c.reserve-2.new.self in
    let free : at nat_cmp (armed (fences_in ws rs)) c.args.k ≡ None = rw (c.in_ok-reserve.ensures.items, c.in_ok-reserve-2.ensures.items, c.self.view_is) c.requires in
    let was : Distinct (fences_in ws rs) = rw (c.in_ok-reserve.ensures.items, c.in_ok-reserve-2.ensures.items) c.self.invariant.distinct in
    armed_more (fences_in ws rs) _ c.args.k c.args.at (put_waiting ws _ rs _ c.put.ensures.items) was free
    ∙ rw (c.in_ok-reserve.ensures.items, c.in_ok-reserve-2.ensures.items, c.self.view_is) refl
