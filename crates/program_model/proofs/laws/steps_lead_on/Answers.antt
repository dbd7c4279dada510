use Rattle.program_model.specs.StepLaws.{stepped_does}
use Rattle.program_model.proofs.laws.steps_lead_on.Goals as goal

pub returns : goal.returns
returns c = stepped_does
