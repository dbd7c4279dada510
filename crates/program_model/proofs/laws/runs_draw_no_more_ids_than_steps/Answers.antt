use Rattle.program_model.specs.RunLaws.{stepped_drawn}
use Rattle.program_model.proofs.laws.runs_draw_no_more_ids_than_steps.Goals as goal

pub returns : goal.returns
returns c = stepped_drawn
