use Rattle.session_laws.specs.LearningLaws.{learnt_keeps}
use Rattle.session_laws.proofs.laws.learning_keeps_it.Goals as goal

pub returns : goal.returns
returns c = λ k status old new can a. learnt_keeps k status old new can a
