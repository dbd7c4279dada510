use Rattle.world_core.specs.Visits.{Tells}
use Rattle.world_core.proofs.Told.{nobody_told}
use Rattle.world_core.proofs.hands.NoLaneByThreads.told_by_threads.Goals as goal

pub returns : goal.returns
returns g c = nobody_told (Tells c.args._machine.now) c.args._names.now
