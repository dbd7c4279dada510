use Rattle.std.proofs.Common.{◌≡◌, ◌++◌, drop, nat_cmp}
use Rattle.std.specs.BTreeSet.{contains}
use Rattle.map_model.specs.Maps.{at, collect}
use Rattle.ejson_value.specs.Key.{key_cmp}
use Rattle.minimongo.specs.Originals.{saves_of, due_at}
use Rattle.minimongo.proofs.originals.due_of.Given as goal

abbrev pub invariant-loop-key : goal.invariant-loop-key
invariant-loop-key l = saves_of l.saves ++ collect (λ k. due_at (λ n. contains nat_cmp l.numbers n) (at key_cmp l.saved.entries k)) (drop l.key-index l.keys)
    ≡ collect (λ k. due_at (λ n. contains nat_cmp l.numbers n) (at key_cmp l.saved.entries k)) l.keys
