use Rattle.std.proofs.Common.{◌≡◌, ◌++◌, drop}
use Rattle.world_core.specs.Acting.{learns_of}
use Rattle.world_core.proofs.listing.learns.Given as goal

abbrev pub invariant-loop-k : goal.invariant-loop-k
invariant-loop-k l = l.acts.items ++ learns_of l.at (drop l.k-index l.calls) ≡ learns_of l.at l.calls
