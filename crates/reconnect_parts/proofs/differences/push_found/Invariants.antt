use Rattle.std.proofs.Common.{◌≡◌, ◌++◌, ℕ, List, [], map, filter, not, drop}
use Rattle.std.specs.Map.{values_of}
use Rattle.reconnect_parts.proofs.differences.push_found.Given as goal

abbrev pub invariant-loop-text : goal.invariant-loop-text
invariant-loop-text l = (goal.iterator-loop-text).can_next l.text-iterator × (goal.iterator-loop-text).is_finite l.text-iterator × (l.texts ++ values_of l.text-iterator ≡ l.initial.texts ++ values_of l.initial.text-iterator)
