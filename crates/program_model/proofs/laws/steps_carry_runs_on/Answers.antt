use Rattle.program_model.specs.RunLaws.{stepped_follows}
use Rattle.program_model.proofs.laws.steps_carry_runs_on.Goals as goal

pub returns : goal.returns
returns c = stepped_follows
