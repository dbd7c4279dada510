use Rattle.world_laws.specs.Asking.{ask_made, can_is, not_asked}
use Rattle.world_laws.proofs.events.clients_are_asked.Goals as goal

pub returns-clause-asked : goal.returns-clause-asked
returns-clause-asked c = ask_made

pub returns-clause-can : goal.returns-clause-can
returns-clause-can c = can_is

pub returns-clause-not_asked : goal.returns-clause-not_asked
returns-clause-not_asked c = not_asked
