use Rattle.std.proofs.Common.{◌∷◌, arith}
use Rattle.std.specs.BinaryHeap.{heap_items}
use Rattle.std.proofs.lemmas.List.Elements.{All-cons}
use Rattle.std.proofs.lemmas.List.Sorted.{IsPermutation-trans, All-permutation}
use Rattle.write_fence.specs.Fences.{IsReached}
use Rattle.write_fence.specs.Index.{Pair, fences_in}
use Rattle.write_fence.proofs.Armed.{pop_reached, put_waiting, distinct_same, distinct_rest, least_of_all, none_of_all}
use Rattle.write_fence.proofs.fences.pop_least.Goals as goal

pub returns-then-is_reached-clause-whole : goal.returns-then-is_reached-clause-whole
returns-then-is_reached-clause-whole c =
    let ws = heap_items c.loop-k.waiting in
    let whole = c.loop-k.invariant.whole in
    record {
      waiting_order = whole.waiting_order;
      reached_order = c.in-Some.ensures.order;
      waiting_room = omega (arith, whole.waiting_room, c.in-Some.ensures.len);
      reached_room = omega (arith, whole.reached_room, c.in-Some.ensures.len, c.in-Some.ensures.capacity);
      distinct = distinct_rest _ _ _ (pop_reached ws _ _ (record { 0 = (c.in-Some.k, c.in-Some.at) }) c.in-Some.ensures.items) whole.distinct;
    }

pub returns-then-is_reached-clause-taken : goal.returns-then-is_reached-clause-taken
returns-then-is_reached-clause-taken c =
    let ws = heap_items c.loop-k.waiting in
    let whole = c.loop-k.invariant.whole in
    record {
      end = c.in-Some.at;
      is_reached = c.is_reached.ensures.0 c.if-is_reached.true;
      is_taken = IsPermutation-trans _ (fences_in ws (heap_items c.loop-k.reached)) _ c.loop-k.invariant.same (pop_reached ws _ _ (record { 0 = (c.in-Some.k, c.in-Some.at) }) c.in-Some.ensures.items);
      is_least = least_of_all ws _ c.args.least c.in-Some.k c.in-Some.at c.loop-k.invariant.none c.in-Some.ensures.least;
    }

pub loop-k-preserved : goal.loop-k-preserved
loop-k-preserved c =
    let ws = heap_items c.loop-k.waiting in
    let vs = heap_items c.put.new.heap in
    let rs = heap_items c.loop-k.reached in
    let qs = heap_items c.pop.new.heap in
    let whole = c.loop-k.invariant.whole in
    let moved = IsPermutation-trans (fences_in ws rs) ((c.in-Some.k, c.in-Some.at) ∷ fences_in ws qs) (fences_in vs qs)
    (pop_reached ws rs qs (record { 0 = (c.in-Some.k, c.in-Some.at) }) c.in-Some.ensures.items)
    (put_waiting ws vs qs (record { 0 = (c.in-Some.at, c.in-Some.k) }) c.put.ensures.items) in
    record {
      whole = record {
        waiting_order = c.put.ensures.order;
        reached_order = c.in-Some.ensures.order;
        waiting_room = omega (arith, whole.waiting_room, c.in-Some.ensures.len, c.put.ensures.len, c.put.ensures.capacity);
        reached_room = omega (arith, whole.reached_room, c.in-Some.ensures.len, c.in-Some.ensures.capacity, c.put.ensures.len);
        distinct = distinct_same (fences_in ws rs) (fences_in vs qs) moved whole.distinct;
      };
      same = IsPermutation-trans _ (fences_in ws rs) (fences_in vs qs) c.loop-k.invariant.same moved;
      none = let P : Pair → Type 0 = λ p. ¬ IsReached c.args.least p.0.0 in
          All-permutation P _ vs c.put.ensures.items (All-cons P (record { 0 = (c.in-Some.at, c.in-Some.k) }) ws (λ yes. let told = c.is_reached.ensures.1 yes in cc) c.loop-k.invariant.none);
    }

pub returns-clause-none : goal.returns-clause-none
returns-clause-none c = rw (c.in_default.ensures.none) (none_of_all (heap_items c.loop-k.waiting) c.args.least c.loop-k.invariant.none)
