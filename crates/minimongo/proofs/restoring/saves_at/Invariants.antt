use Rattle.std.proofs.Common.{◌≡◌, ◌++◌, drop}
use Rattle.minimongo.specs.Originals.{saves_of}
use Rattle.minimongo.specs.Restored.{saves_at}
use Rattle.minimongo.proofs.restoring.saves_at.Given as goal

abbrev pub invariant-loop-key : goal.invariant-loop-key
invariant-loop-key l = saves_of l.saves ++ saves_at l.contents (drop l.key-index l.key-items) ≡ saves_at l.contents l.key-items
