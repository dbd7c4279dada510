-- Laws: The laws of every world that events lead to.
use Rattle.std.specs.Prelude.{◌≡◌, List, Option, None, Some, IfSome, refl}
use Rattle.app_model.specs.App.{App}
use Rattle.world_model.specs.history_model.History.{IsLegal}
use Rattle.world_model.specs.declared.events.Event.{Event}
use Rattle.world_model.specs.Store.{programs}
use Rattle.world_model.specs.Conn.{Conn}
use Rattle.world_model.specs.World.{World, start, conn_of}
use Rattle.world_model.specs.Events.{run, AreEvents}
use Rattle.world_invariant_laws.specs.Lift.{Holds}
use Rattle.world_invariant_laws.specs.Links.{IsLinked, IsLegalOf}
use Rattle.world_invariant_laws.specs.LinksLaws.{links_kept, worlds_are_linked}
use Rattle.world_invariant_laws.specs.Worlds.{Linked}

some_linked : (w : World) → Holds IsLegalOf IsLinked links_kept w → Linked w
some_linked w l name = by (conn_of w name) refl
  where
    by : (o : Option Conn) → conn_of w name ≡ o → IfSome o (IsLinked w.app w.history)
    by None e = tt
    by (Some c) e = l.all name c e

-- each client of every world is linked with its session
pub all_linked : (app : App) (events : List Event) → AreEvents events → Linked (run (start app) events)
all_linked app events good = some_linked (run (start app) events) (worlds_are_linked app events good)

pub all_legal : (app : App) (events : List Event) → AreEvents events → let w = run (start app) events in IsLegal (programs w.app) w.history
all_legal app events good = (worlds_are_linked app events good).history
