use Rattle.std.proofs.Common.{◌≡◌, drop}
use Rattle.std.specs.Option.{option_or}
use Rattle.map_model.specs.Maps.{at}
use Rattle.map_model.specs.Changes.{last_at}
use Rattle.ejson_value.specs.declared.key.Key.{Key}
use Rattle.ejson_value.specs.Key.{key_cmp}
use Rattle.ejson_value.specs.Changes.{changes_of}
use Rattle.ejson_value.proofs.put_all.plan_of.Given as goal

-- what the changes left to go over say, and otherwise what is planned
abbrev pub invariant-loop-change : goal.invariant-loop-change
invariant-loop-change l = (k : Key) → option_or (last_at key_cmp k (changes_of (drop l.change-index l.change-items))) (at key_cmp l.plan.entries k) ≡ last_at key_cmp k (changes_of l.change-items)
