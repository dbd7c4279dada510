use Rattle.program_model.specs.StepLaws.{simulated_leads}
use Rattle.program_model.proofs.laws.simulations_lead_on.Goals as goal

pub returns : goal.returns
returns c = simulated_leads
