use Rattle.headline.specs.Settling as laws
use Rattle.headline.proofs.settled_sessions_rest.Goals as goal

pub returns : goal.returns
returns c = laws.settled_sessions_rest
