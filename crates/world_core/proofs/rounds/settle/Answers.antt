use Rattle.world_core.specs.Kept.{seen}
use Rattle.world_core.proofs.VisitsLemmas.{settles}
use Rattle.world_core.proofs.rounds.settle.Goals as goal

pub returns : goal.returns
returns g c = settles (seen c.args.inside.now) (seen c.rounds.new.inside) tt c.clear.new.self c.length-inside.result c.in_ok-rounds.ensures c.clear.ensures c.length-inside.ensures
