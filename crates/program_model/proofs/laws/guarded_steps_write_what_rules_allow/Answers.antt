use Rattle.program_model.specs.GuardLaws.{guarded_rows}
use Rattle.program_model.proofs.laws.guarded_steps_write_what_rules_allow.Goals as goal

pub returns : goal.returns
returns c = guarded_rows
