use Rattle.world_laws.specs.World.{as_world}
use Rattle.world_laws.specs.Settling.{idle_is_stuck, stuck_is_settled}
use Rattle.world_laws.proofs.rounds.idle_worlds_are_settled.Goals as goal

pub returns-clause-stuck : goal.returns-clause-stuck
returns-clause-stuck c = idle_is_stuck

pub returns-clause-settled : goal.returns-clause-settled
returns-clause-settled c = λ x p s. stuck_is_settled (as_world x) p.values p.reachable s
