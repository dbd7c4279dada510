use Rattle.std.proofs.Common.{◌≡◌, ◌++◌, ℕ, List, [], map, filter, not, drop}
use Rattle.ejson_value.specs.Key.{key_cmp}
use Rattle.reconnect_parts.specs.Differences.{put_all, change_at, new_at}
use Rattle.reconnect_parts.proofs.differences.put_all_new.Given as goal

abbrev pub invariant-loop-key : goal.invariant-loop-key
invariant-loop-key l = (goal.iterator-loop-key).can_next l.key-iterator × (goal.iterator-loop-key).is_finite l.key-iterator × (put_all key_cmp (new_at l.given) l.found.entries l.key-iterator ≡ put_all key_cmp (new_at l.given) l.initial.found.entries l.initial.key-iterator)
