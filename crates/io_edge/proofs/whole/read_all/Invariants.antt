use Rattle.std.proofs.Common.{◌≡◌, ℕ, ◌+◌, ◌-◌, ◌++◌, List, Some, vec_len, min}
use Rattle.io_edge.specs.Outside.{ReadsAtMost}
use Rattle.io_edge.proofs.whole.read_all.Given as goal

-- what was read, and what is left after it; how often it was read
abbrev pub invariant-loop-piece : goal.invariant-loop-piece
invariant-loop-piece g l = (((old : List ℕ) → g.I.Source.left l.fn.input ≡ Some old → (rest : List ℕ) × (g.I.Source.left l.input ≡ Some rest) × (l.bytes.items ++ rest ≡ old))) × (g.I.Source.faults l.input ≡ g.I.Source.faults l.fn.input) × ReadsAtMost (min (vec_len l.bytes) (l.limit + 1)) (g.I.Source.reads l.fn.input) (g.I.Source.reads l.input)

abbrev pub decreases-loop-piece : goal.decreases-loop-piece
decreases-loop-piece g l = (l.limit + 1) - vec_len l.bytes
