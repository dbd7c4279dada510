use Rattle.session_laws.specs.Keeping.{queued_keeps}
use Rattle.session_laws.proofs.laws.queued_texts_keep_it.Goals as goal

pub returns : goal.returns
returns c = λ t message n old is. queued_keeps t message n old is
