use Rattle.std.proofs.Common.{◌≡◌, ◌∷◌, [], drop}
use Rattle.map_model.specs.Maps.{at}
use Rattle.ejson_value.specs.declared.key.Key.{Key}
use Rattle.ejson_value.specs.Key.{key_cmp}
use Rattle.minimongo.specs.Originals.{left_by, saved_by, saves_of}
use Rattle.minimongo.proofs.originals.Originals.save.Given as goal

abbrev pub invariant-loop-save : goal.invariant-loop-save
invariant-loop-save l = record {
  left : (k : Key) → saved_by l.method (at key_cmp (saves_of (drop l.save-index l.save-items)) k) (at key_cmp l.self k) ≡ saved_by l.method (at key_cmp (saves_of l.save-items) k) (at key_cmp l.initial.self k);
  undone : (k : Key) → left_by (l.method ∷ []) (at key_cmp l.self k) ≡ at key_cmp l.initial.self k;
}
