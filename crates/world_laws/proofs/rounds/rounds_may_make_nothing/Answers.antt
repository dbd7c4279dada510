use Rattle.world_laws.specs.Settling.{idle_begins, idle_goes_on, idle_ends}
use Rattle.world_laws.proofs.rounds.rounds_may_make_nothing.Goals as goal

pub returns-clause-begins : goal.returns-clause-begins
returns-clause-begins c = idle_begins

pub returns-clause-goes_on : goal.returns-clause-goes_on
returns-clause-goes_on c = idle_goes_on

pub returns-clause-ends : goal.returns-clause-ends
returns-clause-ends c = idle_ends
