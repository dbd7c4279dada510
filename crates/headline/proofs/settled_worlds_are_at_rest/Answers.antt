use Rattle.headline.specs.AtRest.{settled_worlds_rest}
use Rattle.headline.proofs.settled_worlds_are_at_rest.Goals as goal

pub returns : goal.returns
returns c = settled_worlds_rest
