use Rattle.std.proofs.Common.{◌≡◌, map, drop, IsSome}
use Rattle.map_model.specs.Maps.{at, IsSorted}
use Rattle.map_model.specs.Changes.{changed, last_at}
use Rattle.ejson_value.specs.declared.key.Key.{Key}
use Rattle.ejson_value.specs.declared.change.Change.{Change}
use Rattle.ejson_value.specs.Key.{key_cmp}
use Rattle.ejson_value.specs.Changes.{changes_of}
use Rattle.ejson_value.specs.ChangeLaws.{HaveDistinctKeys}
use Rattle.ejson_value.proofs.contents.Contents.settle_each.Given as goal

-- the changes left to make lead from these contents to where all of them lead from the first ones
abbrev pub invariant-loop-change : goal.invariant-loop-change
invariant-loop-change l = record {
  sorted : IsSorted key_cmp l.self;
  apart : HaveDistinctKeys (drop l.change-index l.changes);
  places : (k : Key) → IsSome (last_at key_cmp k (changes_of (drop l.change-index l.changes))) → IsSome (at key_cmp l.self k);
  copies : l.copies.items ≡ map (λ (c : Change). c.after) (drop l.change-index l.changes);
  left : changed key_cmp l.self (changes_of (drop l.change-index l.changes)) ≡ changed key_cmp l.initial.self (changes_of l.changes);
}
