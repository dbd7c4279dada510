-- In a world in which no act of a round is made, none that a client's phases list is.
use Rattle.std.specs.Prelude.{List, Bool, not}
use Rattle.std.specs.List.{list_all}
use Rattle.world_model.specs.declared.events.Act.{Act}
use Rattle.world_model.specs.Conn.{Conn}
use Rattle.world_model.specs.Acts.{can}
use Rattle.world_model.specs.World.{World}

abbrev pub none_made : World → Conn → List Act → Bool
none_made w c acts = list_all (λ a. not (can w.app w.history c a)) acts
