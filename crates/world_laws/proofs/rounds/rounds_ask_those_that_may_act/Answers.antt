use Rattle.world_laws.specs.Names.{behind_it}
use Rattle.world_laws.specs.World.{as_world}
use Rattle.world_laws.specs.Settling.{seen_sorted, round_begins, round_goes_on, round_is_over, passed_idle}
use Rattle.world_laws.proofs.rounds.rounds_ask_those_that_may_act.Goals as goal

pub returns-clause-begins : goal.returns-clause-begins
returns-clause-begins c = λ x p. round_begins (as_world x) (seen_sorted x p)

pub returns-clause-goes_on : goal.returns-clause-goes_on
returns-clause-goes_on c = round_goes_on

pub returns-clause-is_over : goal.returns-clause-is_over
returns-clause-is_over c = round_is_over

pub returns-clause-idle : goal.returns-clause-idle
returns-clause-idle c = passed_idle

pub returns-clause-behind : goal.returns-clause-behind
returns-clause-behind c = behind_it
