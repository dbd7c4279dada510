use Rattle.std.proofs.Common.{◌≡◌, ◌++◌, ℕ, List, [], map, filter, not, drop}
use Rattle.reconnect_parts.proofs.places.queue_placed.Given as goal

abbrev pub invariant-loop-text : goal.invariant-loop-text
invariant-loop-text l = (goal.iterator-loop-text).can_next l.text-iterator × (goal.iterator-loop-text).is_finite l.text-iterator × (l.waiting.items ++ map (λ (e : ℕ × List ℕ). e.1) l.text-iterator ≡ l.initial.waiting.items ++ map (λ (e : ℕ × List ℕ). e.1) l.initial.text-iterator)
