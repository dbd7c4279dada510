use Rattle.headline.specs.Rounds.{rounds_stay, settling_stays}
use Rattle.headline.proofs.further_rounds_leave_the_settled_world.Goals as goal

pub returns-clause-round : goal.returns-clause-round
returns-clause-round c = rounds_stay

pub returns-clause-settling : goal.returns-clause-settling
returns-clause-settling c = settling_stays
