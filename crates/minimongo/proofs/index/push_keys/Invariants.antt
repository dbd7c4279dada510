use Rattle.std.proofs.Common.{◌≡◌, ◌||◌, drop}
use Rattle.ejson_value.specs.declared.key.Key.{Key}
use Rattle.minimongo.specs.Index.{is_key_among}
use Rattle.minimongo.proofs.index.push_keys.Given as goal

abbrev pub invariant-loop-key : goal.invariant-loop-key
invariant-loop-key l = (k : Key) → (is_key_among (drop l.key-index l.keys) k || is_key_among l.all.items k) ≡ (is_key_among l.keys k || is_key_among l.initial.all.items k)
