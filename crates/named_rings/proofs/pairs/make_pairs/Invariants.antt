use Rattle.std.proofs.Common.{◌≡◌, length}
use Rattle.named_rings.proofs.pairs.make_pairs.Given as goal

abbrev pub invariant-loop-place : goal.invariant-loop-place
invariant-loop-place l = length l.pairs.items ≡ l.place
