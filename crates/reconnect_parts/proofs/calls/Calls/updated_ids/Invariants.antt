use Rattle.std.proofs.Common.{◌≡◌, ◌++◌, ℕ, List, [], map, filter, not, drop}
use Rattle.reconnect_model.specs.Revival.{Called}
use Rattle.std.specs.Map.{keys_of}
use Rattle.reconnect_parts.proofs.calls.Calls.updated_ids.Given as goal

abbrev pub invariant-loop-id : goal.invariant-loop-id
invariant-loop-id l = (goal.iterator-loop-id).can_next l.id-iterator × (goal.iterator-loop-id).is_finite l.id-iterator × (l.ids.keys ++ keys_of (filter (λ (e : List ℕ × Called). e.1.is_updated) l.id-iterator) ≡ keys_of (filter (λ (e : List ℕ × Called). e.1.is_updated) l.self))
