use Rattle.std.proofs.Common.{◌≡◌, ◌++◌, ℕ, List, [], map, filter, not, drop}
use Rattle.reconnect_model.specs.Revival.{Called}
use Rattle.reconnect_model.specs.Saying.{placed}
use Rattle.reconnect_parts.proofs.calls.Calls.half_done.Given as goal

abbrev pub invariant-loop-id : goal.invariant-loop-id
invariant-loop-id l = (goal.iterator-loop-id).can_next l.id-iterator × (goal.iterator-loop-id).is_finite l.id-iterator × (placed l.ids.entries (map (λ (e : List ℕ × Called). (e.1.place, e.0)) (filter (λ (e : List ℕ × Called). e.1.is_answered) l.id-iterator)) ≡ placed l.initial.ids.entries (map (λ (e : List ℕ × Called). (e.1.place, e.0)) (filter (λ (e : List ℕ × Called). e.1.is_answered) l.initial.id-iterator)))
