use Rattle.std.proofs.Common.{◌≡◌, drop}
use Rattle.std.specs.List.{list_any}
use Rattle.program_model.specs.Guarded.{allows}
use Rattle.program_run.specs.Acts.{write_of}
use Rattle.program_run.proofs.judging.some_allows.Given as goal

abbrev pub invariant-loop-rule : goal.invariant-loop-rule
invariant-loop-rule l = list_any (allows (write_of l.act) l.doc) (drop l.rule-index l.rules) ≡ list_any (allows (write_of l.act) l.doc) l.rules
