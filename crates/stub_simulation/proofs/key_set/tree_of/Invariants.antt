use Rattle.std.proofs.Common.{◌≡◌, ◌++◌, drop}
use Rattle.stub_simulation.proofs.key_set.tree_of.Given as goal

abbrev pub invariant-loop-key : goal.invariant-loop-key
invariant-loop-key l = l.tree.keys ++ drop l.key-index l.row ≡ l.row
