use Rattle.world_rounds_laws.specs.StepsLaws.{steps_are}
use Rattle.world_rounds_laws.proofs.steps_make_up_the_phase.Goals as goal

pub returns : goal.returns
returns c = steps_are
