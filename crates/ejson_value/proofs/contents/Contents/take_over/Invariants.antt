use Rattle.std.proofs.Common.{◌≡◌, Some, IsSome, unwrap_or, length}
use Rattle.map_model.specs.Maps.{at, IsSorted}
use Rattle.value_model.specs.Val.{Entries}
use Rattle.ejson_value.specs.declared.key.Key.{Key}
use Rattle.ejson_value.specs.Key.{key_cmp}
use Rattle.ejson_value.proofs.contents.Contents.take_over.Given as goal

-- what is left of the plan makes of these contents what all of it made of the first ones
abbrev pub invariant-loop-key : goal.invariant-loop-key
invariant-loop-key l = record {
  sorted : IsSorted key_cmp l.self;
  planned : IsSorted key_cmp l.plan.entries;
  room : (k : Key) (doc : Entries) → at key_cmp l.plan.entries k ≡ Some (Some doc) → IsSome (at key_cmp l.self k);
  left : (k : Key) → unwrap_or (at key_cmp l.plan.entries k) (at key_cmp l.self k) ≡ unwrap_or (at key_cmp l.initial.plan.entries k) (at key_cmp l.initial.self k);
}

abbrev pub decreases-loop-key : goal.decreases-loop-key
decreases-loop-key l = length l.plan.entries
