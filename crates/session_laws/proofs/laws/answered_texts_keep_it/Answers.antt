use Rattle.session_laws.specs.Keeping.{answered_keeps}
use Rattle.session_laws.proofs.laws.answered_texts_keep_it.Goals as goal

pub returns : goal.returns
returns c = λ t i old new failed is a. answered_keeps t i old new failed is a
