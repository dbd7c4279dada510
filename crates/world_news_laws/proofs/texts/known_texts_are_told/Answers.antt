use Rattle.world_news_laws.specs.Texts.{known_are_right, learnt_are_known}
use Rattle.world_news_laws.proofs.texts.known_texts_are_told.Goals as goal

pub returns : goal.returns
returns c = record { right = known_are_right; learnt = learnt_are_known }
