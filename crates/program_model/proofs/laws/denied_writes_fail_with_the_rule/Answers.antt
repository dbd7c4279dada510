use Rattle.program_model.specs.GuardLaws.{guarded_denial}
use Rattle.program_model.proofs.laws.denied_writes_fail_with_the_rule.Goals as goal

pub returns : goal.returns
returns c = guarded_denial
