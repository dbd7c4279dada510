use Rattle.world_rounds_laws.specs.CoveringLaws.{running_rises, running_covers}
use Rattle.world_rounds_laws.proofs.runs_that_go_on_are_of_calls_that_run.Goals as goal

pub returns : goal.returns
returns c = record { rise = running_rises; covers = running_covers }
