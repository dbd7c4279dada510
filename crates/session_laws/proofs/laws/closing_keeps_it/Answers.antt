use Rattle.session_laws.specs.LearningLaws.{dropped_keeps}
use Rattle.session_laws.proofs.laws.closing_keeps_it.Goals as goal

pub returns : goal.returns
returns c = dropped_keeps
