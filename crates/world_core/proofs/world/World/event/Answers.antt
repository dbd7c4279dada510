use Rattle.world_laws.specs.Promises.{worlds_true, worlds_long}
use Rattle.world_core.specs.Kept.{seen}
use Rattle.world_core.proofs.Worlds.{stays, settles}
use Rattle.world_core.proofs.world.World.event.Goals as goal

pub returns-clause-true_world : goal.returns-clause-true_world
returns-clause-true_world g c = worlds_true (seen c.happen.new.inside) (stays (seen c.self.inside.inside) _ (seen c.happen.new.inside) c.happen.result c.happen.ensures)

pub returns-clause-long_alone : goal.returns-clause-long_alone
returns-clause-long_alone g c = worlds_long (seen c.happen.new.inside) (stays (seen c.self.inside.inside) _ (seen c.happen.new.inside) c.happen.result c.happen.ensures)

pub returns-clause-settles : goal.returns-clause-settles
returns-clause-settles g c = settles (seen c.self.inside.inside) _ (seen c.happen.new.inside) _ c.happening.ensures c.self.invariant c.happen.result c.happen.ensures
