use Rattle.world_news_laws.specs.NewsLaws.{begin_on, step_on, admin_on}
use Rattle.world_news_laws.proofs.news.machines_answer.Goals as goal

pub returns : goal.returns
returns c = record { begins = begin_on; steps = step_on; operates = admin_on }
