-- What an event does to a client with its session.
use Rattle.ejson_value.specs.declared.memory.Mem.{Mem}
use Rattle.std.specs.Prelude.{◌≡◌, ℕ, List, length, Bool, true, false, Option, None, Some, Result, Ok, Err}
use Rattle.app_model.specs.App.{App}
use Rattle.connection.specs.history_model.declared.entry.Entry.{Entry}
use Rattle.connection.specs.store_machine.State.{MachineState}
use Rattle.connection.specs.world_model.declared.events.Act.{Act}
use Rattle.connection.specs.world_model.declared.events.Act.TheVariants as act
use Rattle.connection.specs.world_model.declared.events.Answer.{Answer}
use Rattle.connection.specs.world_model.declared.events.Event.{Event}
use Rattle.connection.specs.world_model.declared.events.Event.TheVariants as event
use Rattle.connection.specs.world_model.Asks.{Ask}
use Rattle.connection.specs.world_model.Asks as ask
use Rattle.connection.specs.world_model.Events.{act_in}
use Rattle.connection.specs.connection_laws.Connection.{AConnection, as_conn, IsConnection}
use Rattle.connection.specs.Answers.{Acts, Does, IsBroken}
use Rattle.connection.specs.Storing.{Enters}

-- The act is answered as the definitions answer it, with its entry behind the history where it is made and has one.
abbrev pub IsAnswered : Act → MachineState → MachineState → AConnection → AConnection → Answer → Type 0
IsAnswered a m next old new o = Acts m.app old.own.name m.history a old new o × Enters a m next old o

-- a text that the client takes may be refused, by this number; no other act tells of one
abbrev pub IsTold : Act → AConnection → Answer → Option ℕ → Type 0
IsTold act.Take new o refusal = IsBroken new o refusal
IsTold a new o refusal = refusal ≡ None

-- the act is answered, with the number of a refusal; where memory runs out, nothing changes
abbrev pub TellsOver : Act → MachineState → MachineState → AConnection → AConnection → Result (Answer × Option ℕ) Mem → Type 0
TellsOver a m next old new (Ok told) = IsAnswered a m next old new told.0 × IsTold a new told.0 told.1
TellsOver a m next old new (Err e) = (new ≡ old) × (next ≡ m)

-- acts that the history may grow by
abbrev pub adds_entry : Act → Bool
adds_entry act.Begin = true
adds_entry (act.Step k) = true
adds_entry a = false

-- the act that an event names over each history of this length
abbrev pub IsNamed : AConnection → ℕ → Event → Option Act → Type 0
IsNamed x entries e named =
    (app : App) (name : List ℕ) (history : List Entry) → IsConnection app name history x → entries ≡ length history → named ≡ act_in history (as_conn x) e

-- what an event asks of a client
abbrev pub ask_in : Event → Option Ask
ask_in (event.Sub client id name params) = Some (ask.subscribe id name params)
ask_in (event.Unsub client id) = Some (ask.unsubscribe id)
ask_in (event.Call client method params) = Some (ask.call method params)
ask_in (event.Raw client t) = Some (ask.raw t)
ask_in (event.Drop client) = Some ask.drop
ask_in e = None

abbrev pub AsksBy : Option Ask → AConnection → AConnection → Result Bool Mem → Type 0
AsksBy None old new result = (new ≡ old) × (result ≡ Ok false)
AsksBy (Some a) old new result = Does a old new result

abbrev pub AsksFor : Event → AConnection → AConnection → Result Bool Mem → Type 0
AsksFor e old new result = AsksBy (ask_in e) old new result
