use Rattle.world_laws.specs.Promises.{worlds_true, worlds_long}
use Rattle.world_core.specs.Kept.{seen}
use Rattle.world_core.proofs.Worlds.{rests, at_rest, round_stays}
use Rattle.world_core.proofs.world.World.settle.Goals as goal

pub returns-clause-at_rest : goal.returns-clause-at_rest
returns-clause-at_rest c = at_rest (seen c.self.inside.inside) (seen c.settle.new.inside) c.self.invariant c.settle.result c.settle.ensures

pub returns-clause-stays : goal.returns-clause-stays
returns-clause-stays c = round_stays (seen c.self.inside.inside) (seen c.settle.new.inside) c.self.invariant c.settle.result c.settle.ensures

pub returns-clause-true_world : goal.returns-clause-true_world
returns-clause-true_world c = worlds_true (seen c.settle.new.inside) (rests (seen c.self.inside.inside) (seen c.settle.new.inside) c.settle.result c.settle.ensures)

pub returns-clause-long_alone : goal.returns-clause-long_alone
returns-clause-long_alone c = worlds_long (seen c.settle.new.inside) (rests (seen c.self.inside.inside) (seen c.settle.new.inside) c.settle.result c.settle.ensures)
