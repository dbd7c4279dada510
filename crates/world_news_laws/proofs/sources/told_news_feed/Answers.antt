use Rattle.world_news_laws.specs.Found.{told_feeds}
use Rattle.world_news_laws.proofs.sources.told_news_feed.Goals as goal

pub returns : goal.returns
returns c = told_feeds
