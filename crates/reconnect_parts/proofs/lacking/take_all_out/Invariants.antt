use Rattle.std.proofs.Common.{◌≡◌, ◌++◌, ℕ, List, [], map, filter, not, drop}
use Rattle.reconnect_model.specs.Giving.{without_all}
use Rattle.reconnect_parts.proofs.lacking.take_all_out.Given as goal

abbrev pub invariant-loop-id : goal.invariant-loop-id
invariant-loop-id l = without_all (drop l.id-index l.id-items) l.ids.keys ≡ without_all l.id-items l.initial.ids.keys
