-- A round goes from client to client: the phases of a client change that client with its session, and the history.
use Rattle.std.specs.Prelude.{ℕ, List, [], ◌∷◌, ◌++◌, map, Bool, Option, Some, None, if◌then◌else◌}
use Rattle.std.specs.BTreeMap.{insert_entry}
use Rattle.value_model.specs.Order.{text_cmp}
use Rattle.app_model.specs.App.{App}
use Rattle.world_model.specs.history_model.declared.entry.Entry.{Entry}
use Rattle.rounds_model.specs.Rounds.{made, through, none_in}
use Rattle.world_model.specs.declared.events.Act.{Act}
use Rattle.world_model.specs.Conn.{Conn}
use Rattle.world_model.specs.Acts.{can, does, entries}
use Rattle.world_model.specs.World.{World, conn_of}
use Rattle.world_model.specs.Settle.{Phase, acts_of, order}

-- the history, and a client with its session
pub record Side : Type 0 where
  pub history : List Entry
  pub conn : Conn

abbrev pub can_on : App → Side → Act → Bool
can_on app x a = can app x.history x.conn a

-- an act of the client; the same where it can't be made
abbrev pub act_on : App → Act → Side → Side
act_on app a x = if can_on app x a then record { history = x.history ++ entries app x.history x.conn a; conn = does app x.history x.conn a } else x

abbrev pub phase_on : App → Phase → Side → List Act
phase_on app p x = acts_of app x.history x.conn p

-- its phases, in order
abbrev pub visited : App → Side → Side
visited app x = through (act_on app) (map (phase_on app) order) x

-- ---- in a world

abbrev pub with_side : World → List ℕ → Side → World
with_side w name x = record w { history = x.history; conns = insert_entry text_cmp w.conns name x.conn }

abbrev pub visited_by : World → List ℕ → Option Conn → World
visited_by w name None = w
visited_by w name (Some c) = with_side w name (visited w.app (record { history = w.history; conn = c }))

-- the client of this name goes through its phases
abbrev pub visits : List ℕ → World → World
visits name w = visited_by w name (conn_of w name)

abbrev pub all_visited : List (List ℕ) → World → World
all_visited [] w = w
all_visited (name ∷ names) w = all_visited names (visits name w)

-- ---- a client that has nothing to do

-- none of the acts is enabled that its phases list
abbrev pub is_idle : App → Side → Bool
is_idle app x = none_in (can_on app) (map (phase_on app) order) x
