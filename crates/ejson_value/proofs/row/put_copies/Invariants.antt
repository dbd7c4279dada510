use Rattle.std.proofs.Common.{◌≡◌, ◌++◌, take}
use Rattle.ejson_value.specs.View.{entries, pairs}
use Rattle.ejson_value.proofs.row.put_copies.Given as goal

abbrev pub invariant-loop-member : goal.invariant-loop-member
invariant-loop-member l = entries (pairs l.copies.items) ≡ entries (pairs l.initial.copies.items) ++ entries (pairs (take l.member-index l.members))
