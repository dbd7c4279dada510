-- What becomes of the client of a name.
use Rattle.ejson_value.specs.declared.memory.Mem.{Mem}
use Rattle.std.specs.Prelude.{ℕ, List, Bool, false, Option, None, Result, Ok}
use Rattle.world_core.specs.store_machine.State.{MachineState}
use Rattle.world_core.specs.world_model.declared.events.Act.{Act}
use Rattle.world_core.specs.world_model.declared.events.Answer.{Answer}
use Rattle.world_core.specs.world_model.declared.events.Answer.TheVariants as answer
use Rattle.world_core.specs.world_model.declared.events.Event.{Event}
use Rattle.world_core.specs.world_invariant_laws.Session.{IsServed}
use Rattle.world_core.specs.connection_laws.Connection.{AConnection, as_conn, IsConnection}
use Rattle.world_core.specs.connection.Acting.{TellsOver, AsksFor}
use Rattle.lanes.specs.Lanes.{Named, IsVisit}

-- the client can act over the machine's history
pub record IsReady (m : MachineState) (name : List ℕ) (c : AConnection) : Type 0 where
  pub connection : IsConnection m.app name m.history c
  pub served : IsServed m.app m.history (as_conn c)

-- ---- acts

-- a client that acts, with the machine then and its answer
abbrev pub Acts : Act → MachineState → AConnection → AConnection → MachineState × Result (Answer × Option ℕ) Mem → Type 0
Acts a m old new r = TellsOver a m r.0 old new r.1

-- nobody of the name does anything; a client that is there acts
abbrev pub ActsIn : Act → MachineState → MachineState → Named AConnection → Named AConnection → List ℕ → Result (Answer × Option ℕ) Mem → Type 0
ActsIn a m next conns put name result = IsVisit (Acts a m) (m, Ok (answer.Idle, None)) conns put name (next, result)

-- ---- what is asked

abbrev pub AsksIn : Event → Named AConnection → Named AConnection → List ℕ → Result Bool Mem → Type 0
AsksIn e conns put name result = IsVisit (AsksFor e) (Ok false) conns put name result
