use Rattle.std.specs.Prelude.{refl}
use Rattle.world_laws.specs.Promises.{new_stays}
use Rattle.world_laws.proofs.worlds.worlds_begin.Goals as goal

pub returns-clause-is : goal.returns-clause-is
returns-clause-is c = λ app. refl

pub returns-clause-stays : goal.returns-clause-stays
returns-clause-stays c = new_stays
