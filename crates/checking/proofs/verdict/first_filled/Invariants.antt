use Rattle.std.proofs.Common.{◌≡◌, ◌+◌, ◌≤◌, length}
use Rattle.checking.specs.Input.{lines_in}
use Rattle.checking.specs.Check.{first_filled}
use Rattle.checking.proofs.verdict.first_filled.Given as goal

abbrev pub invariant-loop-rest : goal.invariant-loop-rest
invariant-loop-rest l = record {
  bad : first_filled l.number (lines_in l.rest) ≡ first_filled 2 (lines_in l.lines);
  number : l.number + length l.rest ≤ 2 + length l.lines;
}

abbrev pub decreases-loop-rest : goal.decreases-loop-rest
decreases-loop-rest l = length l.rest
