use Rattle.std.proofs.Common.{◌≡◌, ◌+◌, ◌≤◌, ◌++◌, length}
use Rattle.checking.specs.Input.{lines_in}
use Rattle.network_commands.specs.Input.{actions_of, no_action}
use Rattle.network_commands.proofs.input.read_actions.Given as goal

abbrev pub invariant-loop-rest : goal.invariant-loop-rest
invariant-loop-rest l = record {
  script : l.script ++ actions_of (lines_in l.rest) ≡ l.initial.script ++ actions_of (lines_in l.lines);
  bad : no_action l.number (lines_in l.rest) ≡ no_action 2 (lines_in l.lines);
  number : l.number + length l.rest ≤ 2 + length l.lines;
}

abbrev pub decreases-loop-rest : goal.decreases-loop-rest
decreases-loop-rest l = length l.rest
