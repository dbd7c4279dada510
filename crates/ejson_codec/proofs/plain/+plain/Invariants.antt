use Rattle.std.proofs.Common.{◌+◌, ◌*◌, ◌≤◌, length}
use Rattle.ejson_codec.proofs.PlainTurns.{ItemsSoFar, MembersSoFar}
use Rattle.ejson_codec.proofs.plain.+plain.Given as goal

abbrev pub decreases-value : goal.decreases-value
decreases-value l = 2 * l.levels

abbrev pub decreases-items : goal.decreases-items
decreases-items l = 2 * l.levels + 1

abbrev pub decreases-fields : goal.decreases-fields
decreases-fields l = 2 * l.levels + 1

-- what was read so far
abbrev pub invariant-items-items : goal.invariant-items-items
invariant-items-items l = ItemsSoFar l.levels l.initial.reader l.reader l.items × (length l.reader ≤ length l.initial.reader)

abbrev pub decreases-items-items : goal.decreases-items-items
decreases-items-items l = length l.reader

abbrev pub invariant-fields-fields : goal.invariant-fields-fields
invariant-fields-fields l = MembersSoFar l.levels l.initial.reader l.reader l.doc × (length l.reader ≤ length l.initial.reader)

abbrev pub decreases-fields-fields : goal.decreases-fields-fields
decreases-fields-fields l = length l.reader
