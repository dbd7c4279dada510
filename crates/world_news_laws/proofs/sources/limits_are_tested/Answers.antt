use Rattle.world_news_laws.specs.Found.{unlimited, passes}
use Rattle.world_news_laws.proofs.sources.limits_are_tested.Goals as goal

pub returns : goal.returns
returns c = record { passed = unlimited; all = passes }
