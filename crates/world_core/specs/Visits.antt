-- What rounds make of the client of a name, and what telling makes of clients.
use Rattle.ejson_value.specs.declared.memory.Mem.{Mem}
use Rattle.std.specs.Prelude.{◌≡◌, ℕ, List, Bool, true, false, Some, Result, Ok}
use Rattle.map_model.specs.Maps.{at}
use Rattle.value_model.specs.Order.{text_cmp}
use Rattle.world_core.specs.store_machine.State.{MachineState}
use Rattle.world_core.specs.world_model.Settle.{order}
use Rattle.world_core.specs.world_invariant_laws.Links.{IsLinked}
use Rattle.world_core.specs.connection_laws.Connection.{AConnection, as_conn, IsConnection}
use Rattle.world_core.specs.connection.Asks.{asks_nothing}
use Rattle.world_core.specs.multiplexer.Telling.{ANews}
use Rattle.world_core.specs.Visit.{visit, IsReady, IsLed, ArePassed, Passes}
use Rattle.lanes.specs.Lanes.{Named, IsVisit, Hears}

-- ---- rounds

-- it has this name, and can go through its phases
abbrev pub CanVisit : MachineState → ANews → List ℕ → AConnection → Type 0
CanVisit m news name c = (c.own.name ≡ name) × IsReady (visit m c news)

-- a client that goes through its phases, with the machine then, what is told then, and whether any act was made
abbrev pub Visits : MachineState → ANews → AConnection → AConnection → MachineState × (ANews × Result Bool Mem) → Type 0
Visits m news old new r = Passes order (visit m old news) (visit r.0 new r.1.0) r.1.1

-- nobody of the name does anything; a client that is there goes through its phases
abbrev pub VisitsIn : MachineState → MachineState → Named AConnection → Named AConnection → ANews → ANews → List ℕ → Result Bool Mem → Type 0
VisitsIn m next conns put news told name result = IsVisit (Visits m news) (m, (news, Ok false)) conns put name (next, (told, result))

-- ---- what there is to show goes to clients

-- it can be told
pub record CanBeTold (m : MachineState) (c : AConnection) : Type 0 where
  pub connection : IsConnection m.app c.own.name m.history c
  pub linked : IsLinked m.app m.history (as_conn c)

-- each of them can
abbrev pub AreReady : MachineState → Named AConnection → Type 0
AreReady m conns = (name : List ℕ) (c : AConnection) → at text_cmp conns name ≡ Some c → CanBeTold m c

-- The client is told, by whatever publications told before, while the history stays as it is. Where it asks for nothing that is its whole round.
pub record Tells (m : MachineState) (old new : AConnection) (flag : Bool) : Type 0 where
  pub news : ANews
  pub told : ANews
  pub led : IsLed (visit m old news) (visit m new told)
  pub passes : asks_nothing old ≡ true → ArePassed order (visit m old news) (visit m new told) flag

-- what want of memory leaves: some of it was told
pub record Leads (m : MachineState) (old new : AConnection) : Type 0 where
  pub news : ANews
  pub told : ANews
  pub led : IsLed (visit m old news) (visit m new told)

-- nobody of the name is told; a client that is there is
abbrev pub TellsIn : MachineState → Named AConnection → Named AConnection → List ℕ → Result Bool Mem → Type 0
TellsIn m conns put name result = IsVisit (Hears (Tells m) (Leads m)) (Ok false) conns put name result
