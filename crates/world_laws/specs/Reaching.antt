-- An event leads from a world that events lead to, to such a world, and so do an act and a client's part of a round.
use Rattle.std.specs.Prelude.{◌≡◌, List}
use Rattle.app_model.specs.App.{App}
use Rattle.headline.specs.world_model.declared.events.Event.{Event}
use Rattle.headline.specs.world_model.World.{World, start}
use Rattle.headline.specs.world_model.Events.{run, AreEvents}

abbrev pub Comes : App → World → Type 0
Comes app w = (events : List Event) × AreEvents events × (run (start app) events ≡ w)
