use Rattle.session_laws.specs.LearningLaws.{sent_keeps}
use Rattle.session_laws.proofs.laws.sending_keeps_it.Goals as goal

pub returns : goal.returns
returns c = sent_keeps
