use Rattle.world_news_laws.specs.NewsLaws.{nothing_is_news, news_go_on}
use Rattle.world_news_laws.proofs.news.news_go_on.Goals as goal

pub returns : goal.returns
returns c = record { nothing = nothing_is_news; stays = news_go_on }
