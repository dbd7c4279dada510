use Rattle.world_laws.specs.Printing.{act_is, nobody_acts_by}
use Rattle.world_laws.proofs.lines.events_name_acts.Goals as goal

pub returns-clause-client : goal.returns-clause-client
returns-clause-client c = act_is

pub returns-clause-nobody : goal.returns-clause-nobody
returns-clause-nobody c = nobody_acts_by
