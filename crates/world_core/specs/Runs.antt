-- Runs of clients that a round tells at once: they come one after another, and ask for nothing.
use Rattle.ejson_value.specs.declared.memory.Mem.{Mem}
use Rattle.std.specs.Prelude.{◌≡◌, ℕ, List, [], ◌∷◌, Bool, true, Result, Ok, Err, IfSome}
use Rattle.map_model.specs.Maps.{at}
use Rattle.value_model.specs.Order.{text_cmp}
use Rattle.world_core.specs.connection_laws.Connection.{AConnection}
use Rattle.world_core.specs.connection.Asks.{asks_nothing}
use Rattle.lanes.specs.Lanes.{EachTold, IsAmong, AreLed}
use Rattle.world_core.specs.Visits.{Tells, Leads}
use Rattle.world_laws.specs.World.{AConnections, AWorld}
use Rattle.world_laws.specs.Names.{behind}
use Rattle.world_core.specs.Rounds.{machine_of, IsNextFrom}

-- the client of this name, if there is one, asks for nothing
abbrev pub AsksNothing : AWorld → List ℕ → Type 0
AsksNothing x name = IfSome (at text_cmp x.conns name) (λ (c : AConnection). asks_nothing c ≡ true)

-- it is the next one
pub record IsListener (x : AWorld) (from name : List ℕ) : Type 0 where
  pub next : IsNextFrom x from name
  pub asks : AsksNothing x name

-- each of these is the next one behind the one before
abbrev pub IsRun : AWorld → List ℕ → List (List ℕ) → Type 0
IsRun x from [] = Unit {0}
IsRun x from (name ∷ names) = IsListener x from name × IsRun x (behind name) names

-- from where on a round goes on behind them
abbrev pub behind_all : List ℕ → List (List ℕ) → List ℕ
behind_all from [] = from
behind_all from (name ∷ names) = behind_all (behind name) names

-- a run is told
pub record IsToldRun (x : AWorld) (from : List ℕ) (y : AWorld) (to : List ℕ) (told : Bool) : Type 0 where
  pub names : List (List ℕ)
  pub run : IsRun x from names
  pub ends : to ≡ behind_all from names
  pub put : AConnections
  pub world : y ≡ record x { conns = put }
  pub each : EachTold (Tells (machine_of x)) names x.conns put told

-- some of them were led on
pub record IsToldInPart (x : AWorld) (from : List ℕ) (y : AWorld) : Type 0 where
  pub names : List (List ℕ)
  pub run : IsRun x from names
  pub put : AConnections
  pub world : y ≡ record x { conns = put }
  pub steps : AConnections
  pub led : AreLed (IsAmong names) (Leads (machine_of x)) steps x.conns put

abbrev pub TellsRun : AWorld → List ℕ → AWorld → List ℕ → Result Bool Mem → Type 0
TellsRun x from y to (Ok told) = IsToldRun x from y to told
TellsRun x from y to (Err m) = IsToldInPart x from y
