use Rattle.std.proofs.Common.{◌≡◌, ◌++◌, drop}
use Rattle.stub_simulation.proofs.key_set.listed_row.Given as goal

abbrev pub invariant-loop-key : goal.invariant-loop-key
invariant-loop-key l = l.list ++ drop l.key-index l.row ≡ l.row
