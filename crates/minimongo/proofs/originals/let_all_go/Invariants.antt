use Rattle.std.proofs.Common.{◌≡◌, ◌∷◌, [], drop, if◌then◌else◌}
use Rattle.map_model.specs.Maps.{at}
use Rattle.ejson_value.specs.declared.key.Key.{Key}
use Rattle.ejson_value.specs.Key.{key_cmp}
use Rattle.minimongo.specs.Index.{is_key_among}
use Rattle.minimongo.specs.Originals.{left_by}
use Rattle.minimongo.proofs.originals.let_all_go.Given as goal

abbrev pub invariant-loop-key : goal.invariant-loop-key
invariant-loop-key l = (k : Key) → (if is_key_among (drop l.key-index l.key-items) k then left_by (l.number ∷ []) (at key_cmp l.saved.entries k) else at key_cmp l.saved.entries k)
    ≡ (if is_key_among l.key-items k then left_by (l.number ∷ []) (at key_cmp l.initial.saved.entries k) else at key_cmp l.initial.saved.entries k)
