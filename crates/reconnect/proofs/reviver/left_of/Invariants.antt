use Rattle.std.proofs.Common.{◌≡◌, ◌++◌, ℕ, List, [], map, filter, not, drop}
use Rattle.reconnect_model.specs.Giving.{is_among}
use Rattle.reconnect.proofs.reviver.left_of.Given as goal

abbrev pub invariant-loop-id : goal.invariant-loop-id
invariant-loop-id l = l.left ++ filter (λ (id : List ℕ). not (is_among l.before.keys id)) (drop l.id-index l.id-items) ≡ filter (λ (id : List ℕ). not (is_among l.before.keys id)) l.id-items
