use Rattle.std.proofs.Common.{◌≡◌, ◌++◌, ◌≤◌, vec_len, vec_capacity}
use Rattle.ejson_value.specs.View.{pairs}
use Rattle.ejson_value.proofs.row.fill.Given as goal

abbrev pub invariant-loop-name : goal.invariant-loop-name
invariant-loop-name l =
    (pairs l.members.items ++ l.map.entries ≡ pairs l.initial.members.items ++ l.initial.map.entries) ×
    (vec_capacity l.initial.members ≤ vec_capacity l.members)

abbrev pub decreases-loop-name : goal.decreases-loop-name
decreases-loop-name l = vec_len l.members
