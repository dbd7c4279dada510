use Rattle.headline.specs.LoweringLaws.{acts_lower}
use Rattle.headline.proofs.each_act_leaves_less.Goals as goal

pub returns : goal.returns
returns c = acts_lower
