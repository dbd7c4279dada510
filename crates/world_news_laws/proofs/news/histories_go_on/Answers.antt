use Rattle.world_news_laws.specs.NewsLaws.{stays_on, longer_on, then_on}
use Rattle.world_news_laws.proofs.news.histories_go_on.Goals as goal

pub returns : goal.returns
returns c = record { same = stays_on; longer = longer_on; further = then_on }
