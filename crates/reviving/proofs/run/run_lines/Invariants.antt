use Rattle.std.proofs.Common.{◌≡◌, ◌+◌, ◌≤◌, ◌++◌, length}
use Rattle.checking.specs.Input.{lines_in}
use Rattle.checking.specs.Output.{bytes_of}
use Rattle.reviving.specs.Run.{lines_of, bad_line, all_written}
use Rattle.reviving.proofs.run.run_lines.Given as goal

abbrev pub invariant-loop-rest : goal.invariant-loop-rest
invariant-loop-rest l = record {
  written : l.output.items ++ bytes_of (all_written l.client (lines_of (lines_in l.rest)))
      ≡ l.initial.output.items ++ bytes_of (all_written l.initial.client (lines_of (lines_in l.lines)));
  bad : bad_line l.number (lines_in l.rest) ≡ bad_line 2 (lines_in l.lines);
  number : l.number + length l.rest ≤ 2 + length l.lines;
}

abbrev pub decreases-loop-rest : goal.decreases-loop-rest
decreases-loop-rest l = length l.rest
