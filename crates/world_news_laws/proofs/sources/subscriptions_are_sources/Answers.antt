use Rattle.world_news_laws.specs.Found.{all_sources, is_source, cursors_are, place_is}
use Rattle.world_news_laws.proofs.sources.subscriptions_are_sources.Goals as goal

pub returns : goal.returns
returns c = record { each = all_sources; source = is_source; cursors = cursors_are; place = place_is }
