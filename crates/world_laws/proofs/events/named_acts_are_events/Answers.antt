use Rattle.world_laws.specs.Making.{named_made, named_not_made, none_named}
use Rattle.world_laws.proofs.events.named_acts_are_events.Goals as goal

pub returns-clause-made : goal.returns-clause-made
returns-clause-made c = named_made

pub returns-clause-not_made : goal.returns-clause-not_made
returns-clause-not_made c = named_not_made

pub returns-clause-none : goal.returns-clause-none
returns-clause-none c = none_named
