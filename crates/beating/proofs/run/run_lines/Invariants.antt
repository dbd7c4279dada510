use Rattle.std.proofs.Common.{◌≡◌, ◌+◌, ◌≤◌, ◌++◌, length}
use Rattle.checking.specs.Input.{lines_in}
use Rattle.checking.specs.Output.{bytes_of}
use Rattle.beating.specs.Run.{events_of, bad_line, said_from}
use Rattle.beating.specs.Kept.{said_by}
use Rattle.beating.proofs.run.run_lines.Given as goal

abbrev pub invariant-loop-rest : goal.invariant-loop-rest
invariant-loop-rest l = record {
  said : l.output.items ++ bytes_of (said_by l.interval l.timeout l.heart (events_of (lines_in l.rest)))
      ≡ l.initial.output.items ++ bytes_of (said_from l.interval l.timeout (events_of (lines_in l.input)));
  bad : bad_line l.number (lines_in l.rest) ≡ bad_line 1 (lines_in l.input);
  number : l.number + length l.rest ≤ 1 + length l.input;
}

abbrev pub decreases-loop-rest : goal.decreases-loop-rest
decreases-loop-rest l = length l.rest
