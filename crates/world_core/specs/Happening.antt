-- What happens in what is kept of a world.
use Rattle.ejson_value.specs.declared.memory.Mem.{Mem}
use Rattle.std.specs.Prelude.{◌≡◌, ℕ, List, Option, None, Some, Result, Ok, Err}
use Rattle.world_core.specs.world_model.declared.events.Act.{Act}
use Rattle.world_core.specs.world_model.declared.events.Event.{Event}
use Rattle.world_core.specs.world_model.declared.events.Event.TheVariants as event
use Rattle.world_core.specs.world_model.Lines.{act_values, texts_of, lines_of}
use Rattle.std.specs.BTreeMap.{insert_entry}
use Rattle.value_model.specs.Order.{text_cmp}
use Rattle.world_core.specs.connection_laws.Connection.{AConnection, new_connection}
use Rattle.world_laws.specs.World.{AWorld, as_world, IsWorld}
use Rattle.world_laws.specs.Doing.{with_name, IsActed, IsStep, IsLeft}

-- the same world, whoever is busy in it
abbrev pub IsSame : AWorld → AWorld → Type 0
IsSame x y = IsWorld y × (as_world y ≡ as_world x)

-- the event is made, and prints its lines; where memory runs out it leaves what it may
abbrev pub Happens : AWorld → Event → AWorld → Result (List (List ℕ)) Mem → Type 0
Happens x e y (Ok lines) = IsStep x e y × (lines ≡ lines_of (as_world x) e)
Happens x e y (Err m) = IsLeft e x y

-- the same of an act of the client of this name
abbrev pub MakesAct : AWorld → List ℕ → Act → AWorld → Result (List (List ℕ)) Mem → Type 0
MakesAct x name a y (Ok lines) = IsActed x name a y × (lines ≡ texts_of (act_values (as_world x) name (Some a)))
MakesAct x name a y (Err m) = IsSame x y

-- of whom an event names an act
abbrev pub actor : Event → Option (List ℕ)
actor (event.Do name a) = Some name
actor (event.Step name k) = Some name
actor (event.Learn name k place) = Some name
actor (event.Load name id place) = Some name
actor (event.Advance name id count) = Some name
actor e = None

-- of whom an event asks something but to be gone
abbrev pub asked_one : Event → Option (List ℕ)
asked_one (event.Sub name id publication params) = Some name
asked_one (event.Unsub name id) = Some name
asked_one (event.Call name method params) = Some name
asked_one (event.Raw name t) = Some name
asked_one e = None

-- ---- clients that begin

-- the client stands among the others, is there, and busy
abbrev pub with_client : AWorld → List ℕ → AConnection → ℕ → AWorld
with_client x name c opened =
    record x { opened = opened; conns = insert_entry text_cmp x.conns name c; present = with_name x.present name; busy = with_name x.busy name }

-- as the client with this number
abbrev pub Begins : AWorld → List ℕ → ℕ → AWorld → Result (Unit {0}) Mem → Type 0
Begins x name number y (Ok u) = y ≡ with_client x name (new_connection x.app name number) number
Begins x name number y (Err m) = IsSame x y
