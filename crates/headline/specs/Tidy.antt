-- In every world that events lead to, each client with its session is tidy.
use Rattle.app_model.specs.App.{App}
use Rattle.headline.specs.world_model.World.{World}
use Rattle.headline.specs.world_invariant_laws.Lift.{Holds}
use Rattle.headline.specs.world_invariant_laws.Links.{IsLinked}
use Rattle.headline.specs.Worlds.{IsSound}
use Rattle.headline.specs.WorldsLaws.{sound_kept}

-- what is so of every world that events lead to, for an application that is made of values
abbrev pub Stands : App → World → Type 0
Stands first w = Holds (IsSound first) IsLinked (sound_kept first) w
