use Rattle.std.specs.Prelude.{map}
use Rattle.std.proofs.Common.{◌≡◌, ◌++◌, drop}
use Rattle.stub_simulation.specs.Simulating.{change_at}
use Rattle.stub_simulation.proofs.simulation.changes_at.Given as goal

abbrev pub invariant-loop-key : goal.invariant-loop-key
invariant-loop-key l = l.changes ++ map (change_at l.view l.left) (drop l.key-index l.keys) ≡ map (change_at l.view l.left) l.keys
