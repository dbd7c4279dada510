use Rattle.std.proofs.Common.{◌≡◌, drop}
use Rattle.program_model.specs.Guarded.{first_denial}
use Rattle.program_run.specs.Acts.{write_of}
use Rattle.program_run.proofs.judging.first_denial.Given as goal

abbrev pub invariant-loop-place : goal.invariant-loop-place
invariant-loop-place l = first_denial (write_of l.act) l.doc l.place (drop l.place l.rules) ≡ first_denial (write_of l.act) l.doc 0 l.rules
