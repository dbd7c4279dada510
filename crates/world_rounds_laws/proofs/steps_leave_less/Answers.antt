use Rattle.world_rounds_laws.specs.StepsLaws.{step_lowers}
use Rattle.world_rounds_laws.proofs.steps_leave_less.Goals as goal

pub returns : goal.returns
returns c = step_lowers
