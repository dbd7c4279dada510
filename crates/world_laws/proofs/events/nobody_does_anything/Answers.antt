use Rattle.world_laws.specs.Making.{nobody_acts, nobody_answers, nobody_is_named}
use Rattle.world_laws.specs.Asking.{nobody_asked, nobody_can}
use Rattle.world_laws.proofs.events.nobody_does_anything.Goals as goal

pub returns-clause-acts : goal.returns-clause-acts
returns-clause-acts c = nobody_acts

pub returns-clause-answers : goal.returns-clause-answers
returns-clause-answers c = nobody_answers

pub returns-clause-named : goal.returns-clause-named
returns-clause-named c = nobody_is_named

pub returns-clause-asks : goal.returns-clause-asks
returns-clause-asks c = nobody_asked

pub returns-clause-can : goal.returns-clause-can
returns-clause-can c = nobody_can
