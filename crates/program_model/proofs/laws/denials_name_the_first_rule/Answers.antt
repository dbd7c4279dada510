use Rattle.program_model.specs.GuardLaws.{denied_first}
use Rattle.program_model.proofs.laws.denials_name_the_first_rule.Goals as goal

pub returns : goal.returns
returns c = denied_first
