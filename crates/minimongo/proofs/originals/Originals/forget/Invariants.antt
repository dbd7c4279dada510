use Rattle.std.proofs.Common.{◌≡◌, drop}
use Rattle.map_model.specs.Maps.{at}
use Rattle.ejson_value.specs.declared.key.Key.{Key}
use Rattle.ejson_value.specs.Key.{key_cmp}
use Rattle.minimongo.specs.Originals.{left_by}
use Rattle.minimongo.proofs.originals.Originals.forget.Given as goal

abbrev pub invariant-loop-method : goal.invariant-loop-method
invariant-loop-method l = (k : Key) → left_by (drop l.method-index l.methods) (at key_cmp l.self k) ≡ left_by l.methods (at key_cmp l.initial.self k)
