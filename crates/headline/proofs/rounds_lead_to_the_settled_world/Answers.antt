use Rattle.headline.specs.Settling as laws
use Rattle.headline.proofs.rounds_lead_to_the_settled_world.Goals as goal

pub returns : goal.returns
returns c = laws.rounds_lead_to_the_settled_world
