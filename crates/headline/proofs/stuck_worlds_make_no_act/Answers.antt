use Rattle.headline.specs.StuckLaws.{none_of_phase}
use Rattle.headline.proofs.stuck_worlds_make_no_act.Goals as goal

pub returns : goal.returns
returns c = none_of_phase
