use Rattle.world_news_laws.specs.MadeLaws.{journal_made}
use Rattle.world_news_laws.proofs.sources.live_subscriptions_have_their_cursors.Goals as goal

pub returns : goal.returns
returns c = journal_made
