use Rattle.world_laws.specs.Promises.{worlds_true, worlds_long}
use Rattle.world_laws.proofs.worlds.kept_worlds_are_true.Goals as goal

pub returns-clause-true_world : goal.returns-clause-true_world
returns-clause-true_world c = worlds_true

pub returns-clause-long_alone : goal.returns-clause-long_alone
returns-clause-long_alone c = worlds_long
