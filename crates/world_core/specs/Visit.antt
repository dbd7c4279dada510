-- A client that a round visits, with the store's machine and what publications told of its history; and what acts of the client make of them.
use Rattle.std.specs.Prelude.{◌≡◌, List, map, Bool, true, false, Result, Ok, Err}
use Rattle.connection.specs.store_machine.State.{MachineState}
use Rattle.rounds_model.specs.Rounds.{made, through, none_of, none_in}
use Rattle.connection.specs.world_model.declared.events.Act.{Act}
use Rattle.connection.specs.world_model.Settle.{Phase}
use Rattle.connection.specs.world_invariant_laws.Links.{IsLinked}
use Rattle.world_rounds_laws.specs.Visits.{Side, can_on, act_on, phase_on}
use Rattle.connection.specs.connection_laws.Connection.{AConnection, as_conn, IsConnection}
use Rattle.world_news_laws.specs.multiplexer.Telling.{ANews}
use Rattle.world_news_laws.specs.News.{AreNews}

pub record AVisit : Type 0 where
  pub machine : MachineState
  pub client : AConnection
  pub news : ANews

abbrev pub visit : MachineState → AConnection → ANews → AVisit
visit machine client news = record { machine = machine; client = client; news = news }

-- the client with its session, and the history, as the definitions see them
abbrev pub side : AVisit → Side
side v = record { history = v.machine.history; conn = as_conn v.client }

-- The client is what its name, the machine's application and history say, and is linked with its session; what was told is told of this history.
pub record IsReady (v : AVisit) : Type 0 where
  pub connection : IsConnection v.machine.app v.client.own.name v.machine.history v.client
  pub linked : IsLinked v.machine.app v.machine.history (as_conn v.client)
  pub news : AreNews v.machine v.news

-- Some acts of the client lead from one to the other. The application and the client's name stay.
pub record IsLed (v w : AVisit) : Type 0 where
  pub app : w.machine.app ≡ v.machine.app
  pub name : w.client.own.name ≡ v.client.own.name
  pub ready : IsReady w
  pub acts : List Act
  pub leads : made (act_on v.machine.app) acts (side v) ≡ side w

-- neither the history nor the client changed
pub record IsSame (v w : AVisit) : Type 0 where
  pub machine : w.machine ≡ v.machine
  pub client : w.client ≡ v.client

-- Each of these acts was made that could be made when its turn came. Where the flag says that none was, none could be.
pub record AreMade (acts : List Act) (v w : AVisit) (flag : Bool) : Type 0 where
  pub led : IsLed v w
  pub leads : made (act_on v.machine.app) acts (side v) ≡ side w
  pub none : flag ≡ false → IsSame v w × (none_of (can_on v.machine.app) acts (side v) ≡ true)

-- where memory runs out, some acts were made
abbrev pub Makes : {E : Type 0} → List Act → AVisit → AVisit → Result Bool E → Type 0
Makes acts v w (Ok flag) = AreMade acts v w flag
Makes acts v w (Err e) = IsLed v w

-- The client went through these phases of a round. Where the flag says that no act was made, none of theirs could be.
pub record ArePassed (ps : List Phase) (v w : AVisit) (flag : Bool) : Type 0 where
  pub led : IsLed v w
  pub leads : through (act_on v.machine.app) (map (phase_on v.machine.app) ps) (side v) ≡ side w
  pub none : flag ≡ false → IsSame v w × (none_in (can_on v.machine.app) (map (phase_on v.machine.app) ps) (side v) ≡ true)

abbrev pub Passes : {E : Type 0} → List Phase → AVisit → AVisit → Result Bool E → Type 0
Passes ps v w (Ok flag) = ArePassed ps v w flag
Passes ps v w (Err e) = IsLed v w
