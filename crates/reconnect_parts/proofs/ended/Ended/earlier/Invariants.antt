use Rattle.std.proofs.Common.{◌≡◌, ◌++◌, ℕ, List, [], map, filter, not, drop}
use Rattle.std.specs.Map.{keys_of}
use Rattle.std.specs.Prelude.{nat_lt}
use Rattle.reconnect_parts.proofs.ended.Ended.earlier.Given as goal

abbrev pub invariant-loop-id : goal.invariant-loop-id
invariant-loop-id l = (goal.iterator-loop-id).can_next l.id-iterator × (goal.iterator-loop-id).is_finite l.id-iterator × (l.ids ++ keys_of (filter (λ (e : List ℕ × ℕ). nat_lt e.1 l.begun) l.id-iterator) ≡ l.initial.ids ++ keys_of (filter (λ (e : List ℕ × ℕ). nat_lt e.1 l.begun) l.initial.id-iterator))
