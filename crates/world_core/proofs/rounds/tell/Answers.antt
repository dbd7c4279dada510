use Rattle.world_core.specs.Kept.{seen}
use Rattle.world_core.proofs.VisitsLemmas.{can_be_told}
use Rattle.world_core.proofs.rounds.tell.Goals as goal

pub tell-requires-clause-clients : goal.tell-requires-clause-clients
tell-requires-clause-clients g c = can_be_told (seen c.args.inside.now) c.requires.world
