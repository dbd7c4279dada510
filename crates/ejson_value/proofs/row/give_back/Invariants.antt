use Rattle.std.proofs.Common.{◌≡◌, ◌+◌, ◌++◌, ◌≤◌, length, vec_len, vec_capacity}
use Rattle.ejson_value.specs.View.{pairs}
use Rattle.ejson_value.proofs.row.give_back.Given as goal

abbrev pub invariant-loop-name : goal.invariant-loop-name
invariant-loop-name l =
    (pairs l.members.items ++ l.map.entries ≡ pairs l.initial.members.items ++ l.initial.map.entries) ×
    (vec_len l.members + length l.map.entries ≤ vec_capacity l.members)

abbrev pub decreases-loop-name : goal.decreases-loop-name
decreases-loop-name l = length l.map.entries
