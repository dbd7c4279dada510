-- What `Fences` keeps: two heaps of pairs of numbers, with the least pair on top.
use Rattle.std.specs.Prelude.{ℕ, ◌+◌, ◌≤◌, List, [], ◌∷◌, ◌++◌, map, Option, All, IsPermutation}
use Rattle.std.specs.declared.cmp.Ordering.{Ordering}
use Rattle.std.specs.declared.cmp.Reverse.{Reverse}
use Rattle.std.specs.declared.collections.BinaryHeap.{BinaryHeap}
use Rattle.std.specs.BinaryHeap.{heap_items, heap_len, heap_capacity, IsHeap}
use Rattle.std.specs.List.{IsDistinct}
use Rattle.std.specs.Map.{keys_of}
use Rattle.std.specs.Ordering.{nat_cmp, eq_by_cmp, ordering_then}
use Rattle.map_model.specs.Maps.{union}
use Rattle.write_fence.specs.Fences.{Armed, IsReached}

abbrev pub Pair : Type 0
Pair = Reverse (ℕ × ℕ)

-- the least pair comes first
abbrev pub least_first : Pair → Pair → Ordering
least_first p q = ordering_then (nat_cmp q.0.0 p.0.0) (nat_cmp q.0.1 p.0.1)

-- the numbers and ends of the fences that wait, kept as (end, number), and of those taken as reached, kept as (number, end)
abbrev pub fences_in : List Pair → List Pair → List (ℕ × ℕ)
fences_in waiting reached = map (λ p. (p.0.1, p.0.0)) waiting ++ map (λ p. (p.0.0, p.0.1)) reached

-- the same by number
abbrev pub armed_in : List Pair → List Pair → Armed
armed_in waiting reached = union nat_cmp (fences_in waiting reached) []

-- both heaps are in order, each has room for all fences, and no number stands twice
pub record AreWhole {Z : Type 0} (waiting reached : BinaryHeap Pair Z) : Type 0 where
  pub waiting_order : IsHeap least_first (heap_items waiting)
  pub reached_order : IsHeap least_first (heap_items reached)
  pub waiting_room : heap_len waiting + heap_len reached ≤ heap_capacity waiting
  pub reached_room : heap_len waiting + heap_len reached ≤ heap_capacity reached
  pub distinct : IsDistinct (eq_by_cmp nat_cmp) (keys_of (fences_in (heap_items waiting) (heap_items reached)))

-- k is the least number of a reached fence before, and after has the others
pub record IsLeastOf (least : Option ℕ) (k : ℕ) (before after : List (ℕ × ℕ)) : Type 0 where
  pub end : ℕ
  pub is_reached : IsReached least end
  pub is_taken : IsPermutation before ((k, end) ∷ after)
  pub is_least : All (λ f. IsReached least f.1 → k ≤ f.0) after
