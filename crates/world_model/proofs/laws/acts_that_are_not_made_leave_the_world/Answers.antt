use Rattle.world_model.specs.WorldLaws.{idle_acts_leave}
use Rattle.world_model.proofs.laws.acts_that_are_not_made_leave_the_world.Goals as goal

pub returns : goal.returns
returns c = idle_acts_leave
