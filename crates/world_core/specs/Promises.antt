-- What an event leaves: the world where memory runs out, and a world that settled.
use Rattle.std.specs.Prelude.{◌≡◌}
use Rattle.world_core.specs.world_model.declared.events.Event.{Event}
use Rattle.world_core.specs.world_model.declared.events.Event.TheVariants as event
use Rattle.world_core.specs.world_model.World.{World}
use Rattle.world_core.specs.world_model.Settle.{round}
use Rattle.world_core.specs.world_model.Headline.{AreAtRest}
use Rattle.world_laws.specs.Doing.{ActsLead}

-- the world as it was, or, where it was to settle, as the acts so far left it
abbrev pub IsLeft : Event → World → World → Type 0
IsLeft event.Settle w v = ActsLead w v
IsLeft e w v = v ≡ w

-- a settled world: each session whose client is there is at rest, and a further round leaves the world
pub record IsSettled (w : World) : Type 0 where
  pub rests : AreAtRest w
  pub stays : round w ≡ w
