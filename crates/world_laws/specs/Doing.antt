-- What events and rounds make of what is kept of a world, and which step of the definitions that is.
use Rattle.std.specs.Prelude.{◌≡◌, ◌⊎◌, ℕ, suc, List, [], ◌∷◌, ◌++◌, length, Bool, true, false, IfSome}
use Rattle.std.specs.Map.{keys_of, remove_entry}
use Rattle.std.specs.Ordering.{is_le}
use Rattle.std.specs.BTreeMap.{is_at, insert_entry}
use Rattle.value_model.specs.Val.{Val}
use Rattle.value_model.specs.Order.{text_cmp}
use Rattle.headline.specs.history_model.declared.entry.Entry.{Entry}
use Rattle.headline.specs.history_model.declared.entry.Entry.TheVariants as entry
use Rattle.rounds_model.specs.Rounds.{made}
use Rattle.headline.specs.world_model.declared.events.Act.{Act}
use Rattle.headline.specs.world_model.declared.events.Act.TheVariants as act
use Rattle.headline.specs.world_model.declared.events.Event.{Event}
use Rattle.headline.specs.world_model.declared.events.Event.TheVariants as event
use Rattle.headline.specs.world_model.Asks.{Ask}
use Rattle.headline.specs.world_model.Asks as ask
use Rattle.headline.specs.world_model.World.{World, conn_of, done, opens, asked_in}
use Rattle.headline.specs.world_model.Events.{administers, step}
use Rattle.world_rounds_laws.specs.Visits.{visits}
use Rattle.connection_laws.specs.Connection.{AConnection, new_connection}
use Rattle.world_laws.specs.World.{Names, AWorld, as_world, is_among, IsIdle, IsWorld}
use Rattle.world_laws.specs.Names.{names_from, visited}

-- ---- names

-- the names with this one
abbrev pub with_name : Names → List ℕ → Names
with_name names name = insert_entry text_cmp names name tt

-- and without it
abbrev pub without_name : Names → List ℕ → Names
without_name names name = remove_entry (is_at (text_cmp name)) names

-- ---- acts

-- the world with another client of this name, with these entries behind the others, and with these names
abbrev pub changed : AWorld → List ℕ → AConnection → List Entry → ℕ → Names → Names → AWorld
changed x name new more opened present busy =
    record x { history = x.history ++ more; opened = opened; conns = insert_entry text_cmp x.conns name new; present = present; busy = busy }

-- the world after an act of this client, who is busy then
abbrev pub after_act : AWorld → List ℕ → AConnection → List Entry → AWorld
after_act x name new more = changed x name new more x.opened x.present (with_name x.busy name)

-- who may have something to do from now on
abbrev pub touched : AWorld → List ℕ → AWorld
touched x name = record x { busy = with_name x.busy name }

pub record IsActed (x : AWorld) (name : List ℕ) (a : Act) (y : AWorld) : Type 0 where
  pub stays : IsWorld y
  pub does : as_world y ≡ done (name, a) (as_world x)

-- whether the client takes a text
abbrev pub is_take : Act → Bool
is_take act.Take = true
is_take a = false

-- ---- what is asked

abbrev pub is_drop : Ask → Bool
is_drop ask.drop = true
is_drop a = false

-- the client does what it is asked for, and is busy then
abbrev pub after_ask : AWorld → List ℕ → AConnection → AWorld
after_ask x name new = record x { conns = insert_entry text_cmp x.conns name new; busy = with_name x.busy name }

-- and where it is to be gone, it isn't among those that are there
abbrev pub after_drop : AWorld → List ℕ → AConnection → AWorld
after_drop x name new = record x { conns = insert_entry text_cmp x.conns name new; present = without_name x.present name; busy = with_name x.busy name }

pub record IsAskedIn (x : AWorld) (name : List ℕ) (a : Ask) (y : AWorld) : Type 0 where
  pub stays : IsWorld y
  pub does : as_world y ≡ asked_in name a (as_world x)

-- ---- a client begins

-- it is there, and busy
abbrev pub after_open : AWorld → List ℕ → AWorld
after_open x name =
    record x {
      opened = suc x.opened;
      conns = insert_entry text_cmp x.conns name (new_connection x.app name (suc x.opened));
      present = with_name x.present name;
      busy = with_name x.busy name;
    }

pub record IsOpened (x : AWorld) (name : List ℕ) (y : AWorld) : Type 0 where
  pub stays : IsWorld y
  pub does : as_world y ≡ opens (as_world x) name

-- ---- operations

abbrev pub after_operation : AWorld → List Val → AWorld
after_operation x op = record x { history = x.history ++ entry.Admin op ∷ [] }

pub record IsAdministered (x : AWorld) (op : List Val) (y : AWorld) : Type 0 where
  pub stays : IsWorld y
  pub does : as_world y ≡ administers (as_world x) op

-- ---- rounds

-- what is left of a round from this name on
abbrev pub visits_from : List ℕ → World → World
visits_from from w = visited visits (names_from from (keys_of w.conns)) w

-- who is passed over: it isn't busy, and the history is as it was when the world was settled last, or the client isn't there
abbrev pub IsPassed : AWorld → List ℕ → Type 0
IsPassed x q = (is_among x.busy q ≡ false) × ((length x.history ≡ x.settled) ⊎ (is_among x.present q ≡ false))

-- those before this name have nothing to do
abbrev pub IsIdleBefore : AWorld → List ℕ → Type 0
IsIdleBefore x from = (q : List ℕ) → is_le (text_cmp from q) ≡ false → IfSome (conn_of (as_world x) q) (IsIdle x.app x.history)

-- the world after a visit: the client changed, and the history grew
abbrev pub after_visit : AWorld → List ℕ → AConnection → List Entry → AWorld
after_visit x name new history = record x { history = history; conns = insert_entry text_cmp x.conns name new }

-- who is visited: it is busy, or it is there and the history has grown since the world was settled last
abbrev pub IsWorker : AWorld → List ℕ → Type 0
IsWorker x name = (is_among x.busy name ≡ true) ⊎ ((is_among x.present name ≡ true) × (length x.history ≡ x.settled → ⊥))

pub record IsVisited (x : AWorld) (name : List ℕ) (y : AWorld) : Type 0 where
  pub stays : IsWorld y
  pub does : as_world y ≡ visits name (as_world x)

-- nobody is busy then, and the history is as it is
abbrev pub at_rest : AWorld → AWorld
at_rest x = record x { busy = []; settled = length x.history }

-- ---- what every event promises

-- the event is made
pub record IsStep (x : AWorld) (e : Event) (y : AWorld) : Type 0 where
  pub stays : IsWorld y
  pub does : as_world y ≡ step (as_world x) e

-- some acts lead from one world to the other
abbrev pub ActsLead : World → World → Type 0
ActsLead v w = (acts : List (List ℕ × Act)) × (made done acts v ≡ w)

-- where memory runs out: the world is as it was, or, where it was to settle, as the acts so far left it
abbrev pub IsLeft : Event → AWorld → AWorld → Type 0
IsLeft event.Settle x y = IsWorld y × ActsLead (as_world x) (as_world y)
IsLeft e x y = IsWorld y × (as_world y ≡ as_world x)
