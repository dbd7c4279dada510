use Rattle.std.proofs.Common.{◌≡◌, drop}
use Rattle.program_model.specs.Guarded.{are_read}
use Rattle.program_run.proofs.holding.are_read.Given as goal

abbrev pub invariant-loop-rule : goal.invariant-loop-rule
invariant-loop-rule l = are_read l.action (drop l.rule-index l.rules) ≡ are_read l.action l.rules
