use Rattle.world_rounds_laws.specs.ListingLaws.{no_steps_listed}
use Rattle.world_rounds_laws.proofs.runs_that_are_over_have_no_steps.Goals as goal

pub returns : goal.returns
returns c = no_steps_listed
