-- What is kept of a world, which world of the definitions that is, and what every event keeps of it.
use Rattle.std.specs.Prelude.{◌≡◌, ◌⊎◌, ℕ, ◌≤◌, List, [], length, map, Bool, true, false, not, Option, Some, None, is_some, IfSome}
use Rattle.map_model.specs.Maps.{at, IsSorted}
use Rattle.value_model.specs.Order.{text_cmp}
use Rattle.app_model.specs.App.{App}
use Rattle.headline.specs.history_model.declared.entry.Entry.{Entry}
use Rattle.headline.specs.world_values_laws.Values.{HasValues}
use Rattle.headline.specs.world_model.Store.{programs}
use Rattle.headline.specs.world_model.Conn.{Conn}
use Rattle.headline.specs.world_model.World.{World, Conns}
use Rattle.headline.specs.world_model.Events.{Reachable}
use Rattle.world_rounds_laws.specs.Visits.{is_idle}
use Rattle.connection_laws.specs.Connection.{AConnection, as_conn, IsConnection}

-- names in order, each with nothing
abbrev pub Names : Type 0
Names = List (List ℕ × Unit {0})

abbrev pub AConnections : Type 0
AConnections = List (List ℕ × AConnection)

pub record AWorld : Type 0 where
  pub app : App
  pub history : List Entry
  -- how many clients there were so far
  pub opened : ℕ
  -- the clients with their sessions, by name
  pub conns : AConnections
  -- the names of those that are not gone, and of those that may have something to do even while the history stays as it is
  pub present : Names
  pub busy : Names
  -- how many entries the history had when the world was settled last
  pub settled : ℕ

-- the world of an application at its beginning
abbrev pub new_world : App → AWorld
new_world app = record { app = app; history = []; opened = 0; conns = []; present = []; busy = []; settled = 0 }

-- ---- as the definitions see it

abbrev pub as_conns : AConnections → Conns
as_conns conns = map (λ (e : List ℕ × AConnection). (e.0, as_conn e.1)) conns

abbrev pub as_world : AWorld → World
as_world x = record { app = x.app; history = x.history; opened = x.opened; conns = as_conns x.conns }

abbrev pub connection_of : AWorld → List ℕ → Option AConnection
connection_of x name = at text_cmp x.conns name

abbrev pub is_among : Names → List ℕ → Bool
is_among names name = is_some (at text_cmp names name)

-- ---- what stays so

-- no act of the client's phases can be made
abbrev pub IsIdle : App → List Entry → Conn → Type 0
IsIdle app history c = is_idle app (record { history = history; conn = c }) ≡ true

abbrev pub is_there : Option AConnection → Bool
is_there None = false
is_there (Some c) = not c.is_dropped

-- What holds of each client: its connection is what its name, the application and the history say.
-- One that isn't busy has nothing to do as long as the history has as many entries as when the world
-- was settled last, and one that is gone has nothing to do then at all.
pub record IsClient (x : AWorld) (name : List ℕ) (c : AConnection) : Type 0 where
  pub connection : IsConnection x.app name x.history c
  pub rests : is_among x.busy name ≡ false → (length x.history ≡ x.settled) ⊎ (c.is_dropped ≡ true) → IsIdle x.app x.history (as_conn c)

-- The application is made of values, and events lead to the world from its beginning.
pub record IsWorld (x : AWorld) : Type 0 where
  pub values : HasValues (programs x.app)
  pub reachable : Reachable (as_world x)
  pub order : IsSorted text_cmp x.conns
  pub clients : (name : List ℕ) → IfSome (connection_of x name) (IsClient x name)
  pub present : IsSorted text_cmp x.present × ((name : List ℕ) → is_among x.present name ≡ is_there (connection_of x name))
  pub busy : IsSorted text_cmp x.busy
  pub settled : x.settled ≤ length x.history
