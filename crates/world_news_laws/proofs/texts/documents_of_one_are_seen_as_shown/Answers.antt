use Rattle.world_news_laws.specs.Alone.{seen_once, seen_alone}
use Rattle.world_news_laws.proofs.texts.documents_of_one_are_seen_as_shown.Goals as goal

pub returns : goal.returns
returns c = record { alone = seen_alone; once = seen_once }
