use Rattle.world_model.specs.WorldLaws.{journals_show}
use Rattle.world_model.proofs.laws.journals_show_the_texts.Goals as goal

pub returns : goal.returns
returns c = journals_show
