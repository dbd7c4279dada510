-- What holds of the worlds that a replay runs through.
use Rattle.std.specs.Prelude.{◌≡◌, ℕ, suc, List, take, Some, IfSome, slice_get}
use Rattle.app_model.specs.App.{App}
use Rattle.client_model.specs.Showing.{IsShown}
use Rattle.world_core.specs.world_model.declared.events.Event.{Event}
use Rattle.world_core.specs.world_model.declared.events.Event.TheVariants as event
use Rattle.world_core.specs.world_model.Conn.{Conn}
use Rattle.world_core.specs.world_model.World.{World, start, conn_of}
use Rattle.world_core.specs.world_model.Events.{run}
use Rattle.world_core.specs.world_model.Settle.{round}
use Rattle.world_core.specs.world_model.Headline.{IsTrueWorld, HaveLongAlone, AreAtRest}
use Rattle.checking.specs.Input.{lines_in, rest_of}
use Rattle.replay_core.specs.Replay.{app_of, events_of}

-- each client shows what the server says of a document, but for those that its open calls hold
abbrev pub AreShown : World → Type 0
AreShown w = (name : List ℕ) → IfSome (conn_of w name) (λ (c : Conn). IsShown c.client)

-- Of every world: the headline holds, each client shows what it is to show, and one that sends no text but those that it is asked for refuses none but
-- for its length.
pub record IsTrue (w : World) : Type 0 where
  pub headline : IsTrueWorld w
  pub shown : AreShown w
  pub long : HaveLongAlone w

-- Of a settled world: its sessions are at rest, and a further round leaves it.
pub record IsSettled (w : World) : Type 0 where
  pub at_rest : AreAtRest w
  pub stays : round w ≡ w

-- the world once the first n of the events ran
abbrev pub world_after : App → List Event → ℕ → World
world_after app events n = run (start app) (take n events)

-- of a run of these events: what holds after each number of them, and after each `settle`
pub record IsTrueRun (app : App) (events : List Event) : Type 0 where
  pub each : (n : ℕ) → IsTrue (world_after app events n)
  pub settled : (n : ℕ) → slice_get events n ≡ Some event.Settle → IsSettled (world_after app events (suc n))

-- the same of the events of an input, if it has an application
abbrev pub IsTrueReplay : List ℕ → Type 0
IsTrueReplay input = (app : App) → app_of (lines_in input) ≡ Some app → IsTrueRun app (events_of (rest_of (lines_in input)))
