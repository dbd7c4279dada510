use Rattle.world_laws.specs.World.{as_world}
use Rattle.world_laws.specs.Settling.{round_settles}
use Rattle.world_laws.proofs.rounds.rounds_settle.Goals as goal

pub returns : goal.returns
returns c = λ x p. round_settles (as_world x) p.values p.reachable
