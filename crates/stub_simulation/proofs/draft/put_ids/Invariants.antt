use Rattle.std.specs.Prelude.{map}
use Rattle.std.proofs.Common.{◌≡◌, ◌++◌, drop}
use Rattle.ejson_value.specs.declared.key.Key.{Key}
use Rattle.stub_simulation.proofs.draft.put_ids.Given as goal

abbrev pub invariant-loop-key : goal.invariant-loop-key
invariant-loop-key l = l.made ++ map (λ (key : Key). key.id) (drop l.key-index l.keys) ≡ l.initial.made ++ map (λ (key : Key). key.id) l.keys
