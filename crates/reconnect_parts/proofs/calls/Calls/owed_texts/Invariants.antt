use Rattle.std.proofs.Common.{◌≡◌, ◌++◌, ℕ, List, [], map, filter, not, drop}
use Rattle.reconnect_model.specs.Revival.{Called}
use Rattle.reconnect_model.specs.Saying.{placed}
use Rattle.reconnect_parts.proofs.calls.Calls.owed_texts.Given as goal

abbrev pub invariant-loop-call : goal.invariant-loop-call
invariant-loop-call l = (goal.iterator-loop-call).can_next l.call-iterator × (goal.iterator-loop-call).is_finite l.call-iterator × (placed l.texts.entries (map (λ (e : List ℕ × Called). (e.1.place, e.1.text)) (filter (λ (e : List ℕ × Called). not e.1.is_answered) l.call-iterator)) ≡ placed l.initial.texts.entries (map (λ (e : List ℕ × Called). (e.1.place, e.1.text)) (filter (λ (e : List ℕ × Called). not e.1.is_answered) l.initial.call-iterator)))
