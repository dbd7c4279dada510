use Rattle.std.proofs.Common.{◌≡◌, ◌++◌, ℕ, List, [], map, filter, not, drop}
use Rattle.reconnect_model.specs.Giving.{all_updated}
use Rattle.reconnect_parts.proofs.calls.Calls.update_all.Given as goal

abbrev pub invariant-loop-id : goal.invariant-loop-id
invariant-loop-id l = all_updated (drop l.id-index l.id-items) l.self ≡ all_updated l.id-items l.initial.self
