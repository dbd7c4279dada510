use Rattle.session_laws.specs.LearningLaws.{refused_keeps}
use Rattle.session_laws.proofs.laws.refusing_keeps_it.Goals as goal

pub returns : goal.returns
returns c = λ k place old new a. refused_keeps k place old new a
