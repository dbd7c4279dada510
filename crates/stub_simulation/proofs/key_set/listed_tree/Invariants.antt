use Rattle.std.proofs.Common.{◌≡◌, ◌++◌}
use Rattle.stub_simulation.proofs.key_set.listed_tree.Given as goal

abbrev pub invariant-loop-key : goal.invariant-loop-key
invariant-loop-key l = record {
  can_next : goal.iterator-loop-key.can_next l.key-iterator;
  is_finite : goal.iterator-loop-key.is_finite l.key-iterator;
  left : l.list ++ l.key-iterator ≡ l.initial.key-iterator;
}
