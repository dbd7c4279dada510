use Rattle.client_model.specs.TakingLaws.{text_breaks}
use Rattle.client_model.proofs.refused_texts_only_break.Goals as goal

pub returns : goal.returns
returns c = text_breaks
