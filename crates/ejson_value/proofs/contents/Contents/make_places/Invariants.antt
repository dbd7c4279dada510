use Rattle.std.proofs.Common.{◌≡◌, false, Some, [], if◌then◌else◌, drop}
use Rattle.map_model.specs.Maps.{at}
use Rattle.ejson_value.specs.declared.key.Key.{Key}
use Rattle.ejson_value.specs.Key.{key_cmp}
use Rattle.ejson_value.specs.Changes.{has_new}
use Rattle.ejson_value.proofs.contents.Contents.make_places.Given as goal

-- what is left to do makes of these contents what all of it made of the first ones
abbrev pub invariant-loop-change : goal.invariant-loop-change
invariant-loop-change l = record {
  left : (k : Key) → (if has_new k (drop l.change-index l.change-items) then Some [] else at key_cmp l.self k) ≡ (if has_new k l.change-items then Some [] else at key_cmp l.initial.self k);
  fewer : (k : Key) → has_new k l.change-items ≡ false → has_new k (drop l.change-index l.change-items) ≡ false;
}
