use Rattle.std.proofs.Common.{◌≡◌, ◌++◌, ℕ, List, [], map, filter, not, drop}
use Rattle.reconnect_model.specs.Revival.{Wanted}
use Rattle.reconnect_model.specs.Saying.{placed}
use Rattle.reconnect_parts.proofs.subs.Subs.texts.Given as goal

abbrev pub invariant-loop-sub : goal.invariant-loop-sub
invariant-loop-sub l = (goal.iterator-loop-sub).can_next l.sub-iterator × (goal.iterator-loop-sub).is_finite l.sub-iterator × (placed l.texts.entries (map (λ (e : List ℕ × Wanted). (e.1.place, e.1.text)) l.sub-iterator) ≡ placed l.initial.texts.entries (map (λ (e : List ℕ × Wanted). (e.1.place, e.1.text)) l.initial.sub-iterator))
