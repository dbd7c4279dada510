use Rattle.world_laws.specs.Promises.{settled_rests}
use Rattle.world_laws.proofs.worlds.settled_worlds_are_at_rest.Goals as goal

pub returns : goal.returns
returns c = settled_rests
