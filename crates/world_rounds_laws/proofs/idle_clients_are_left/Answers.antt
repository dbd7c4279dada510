use Rattle.world_rounds_laws.specs.VisitsLaws.{idle_visited, idle_left}
use Rattle.world_rounds_laws.proofs.idle_clients_are_left.Goals as goal

pub returns : goal.returns
returns c = record { side = idle_visited; world = idle_left }
