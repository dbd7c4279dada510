use Rattle.program_model.specs.RunLaws.{stepped_less}
use Rattle.program_model.proofs.laws.each_step_leaves_fewer.Goals as goal

pub returns : goal.returns
returns c = stepped_less
