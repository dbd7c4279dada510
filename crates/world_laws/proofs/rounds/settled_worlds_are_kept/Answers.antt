use Rattle.world_laws.specs.Settling.{rest_stays, settling_made}
use Rattle.world_laws.proofs.rounds.settled_worlds_are_kept.Goals as goal

pub returns-clause-rests : goal.returns-clause-rests
returns-clause-rests c = rest_stays

pub returns-clause-made : goal.returns-clause-made
returns-clause-made c = settling_made
