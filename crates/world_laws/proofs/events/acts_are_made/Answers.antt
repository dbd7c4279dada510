use Rattle.world_laws.specs.Making.{act_made, outcome_is, act_not_made, touch_stays, acts_are}
use Rattle.world_laws.proofs.events.acts_are_made.Goals as goal

pub returns-clause-made : goal.returns-clause-made
returns-clause-made c = act_made

pub returns-clause-answered : goal.returns-clause-answered
returns-clause-answered c = outcome_is

pub returns-clause-not_made : goal.returns-clause-not_made
returns-clause-not_made c = act_not_made

pub returns-clause-touched : goal.returns-clause-touched
returns-clause-touched c = touch_stays

pub returns-clause-named : goal.returns-clause-named
returns-clause-named c = acts_are
