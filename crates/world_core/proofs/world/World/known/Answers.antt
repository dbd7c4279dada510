use Rattle.std.proofs.Common.{subst}
use Rattle.world_laws.specs.world_values_laws.Values.{HasValues}
use Rattle.world_core.specs.world_model.Store.{programs}
use Rattle.world_core.specs.world_model.World.{World}
use Rattle.world_core.specs.world_model.Headline.{IsTrueWorld, HaveLongAlone}
use Rattle.world_laws.specs.Promises.{worlds_true, worlds_long}
use Rattle.world_core.specs.Kept.{seen}
use Rattle.world_core.proofs.world.World.known.Goals as goal

pub returns-clause-values : goal.returns-clause-values
returns-clause-values c = subst (λ (w : World). HasValues (programs w.app)) c.self.view_is c.self.invariant.values

pub returns-clause-true_world : goal.returns-clause-true_world
returns-clause-true_world c = subst IsTrueWorld c.self.view_is (worlds_true (seen c.self.inside.inside) c.self.invariant)

pub returns-clause-long_alone : goal.returns-clause-long_alone
returns-clause-long_alone c = subst (λ (w : World). HaveLongAlone w) c.self.view_is (worlds_long (seen c.self.inside.inside) c.self.invariant)
