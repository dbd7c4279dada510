use Rattle.std.proofs.Common.{◌≡◌, ◌++◌}
use Rattle.ejson_value.proofs.contents.Contents.copy.Given as goal

abbrev pub invariant-loop-key : goal.invariant-loop-key
invariant-loop-key l = (goal.iterator-loop-key).can_next l.key-iterator × (goal.iterator-loop-key).is_finite l.key-iterator × (l.self ≡ l.copies ++ l.key-iterator)
