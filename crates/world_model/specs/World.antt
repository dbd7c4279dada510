-- A world: an application, the history of its store, and the clients with their sessions, by name.
use Rattle.std.specs.Prelude.{ℕ, suc, List, [], ◌++◌, length, filter, Bool, false, not, ◌&&◌, nat_lt, is_none, Option, Some, None, if◌then◌else◌}
use Rattle.std.specs.BTreeMap.{insert_entry}
use Rattle.map_model.specs.Maps.{at}
use Rattle.value_model.specs.Order.{text_cmp}
use Rattle.app_model.specs.App.{App}
use Rattle.history_model.specs.declared.entry.Entry.{Entry}
use Rattle.world_model.specs.declared.events.Act.{Act}
use Rattle.world_model.specs.declared.events.Answer.{Answer}
use Rattle.world_model.specs.declared.events.Answer.TheVariants as answer
use Rattle.world_model.specs.Conn.{Conn, new_conn, client_limit}
use Rattle.world_model.specs.Acts.{outcome, can, does, entries}
use Rattle.world_model.specs.Asks.{Ask, can_ask, asked}

abbrev pub Conns : Type 0
Conns = List (List ℕ × Conn)

pub record World : Type 0 where
  pub app : App
  pub history : List Entry
  -- how many clients there were so far, those that are gone among them
  pub opened : ℕ
  pub conns : Conns

-- the world of an application at its beginning
abbrev pub start : App → World
start app = record { app = app; history = []; opened = 0; conns = [] }

abbrev pub conn_of : World → List ℕ → Option Conn
conn_of w name = at text_cmp w.conns name

abbrev pub with_conn : World → List ℕ → Conn → World
with_conn w name c = record w { conns = insert_entry text_cmp w.conns name c }

-- ---- a client begins

-- those that are not gone
abbrev pub present : Conns → Conns
present conns = filter (λ (e : List ℕ × Conn). not e.1.is_dropped) conns

-- names are given once
abbrev pub can_open : World → List ℕ → Bool
can_open w name = is_none (conn_of w name) && nat_lt (length (present w.conns)) client_limit

-- sessions are numbered from 1
abbrev pub opened_with : World → List ℕ → World
opened_with w name = record w { opened = suc w.opened; conns = insert_entry text_cmp w.conns name (new_conn (suc w.opened)) }

abbrev pub opens : World → List ℕ → World
opens w name = if can_open w name then opened_with w name else w

-- ---- an act

abbrev pub acted : World → List ℕ → Act → Conn → World
acted w name a c = record w { history = w.history ++ entries w.app w.history c a; conns = insert_entry text_cmp w.conns name (does w.app w.history c a) }

abbrev pub done_by : World → List ℕ → Act → Option Conn → World
done_by w name a None = w
done_by w name a (Some c) = if can w.app w.history c a then acted w name a c else w

-- an act of the client of this name; the world as it was where it isn't made
abbrev pub done : List ℕ × Act → World → World
done e w = done_by w e.0 e.1 (conn_of w e.0)

abbrev pub can_by : World → Act → Option Conn → Bool
can_by w a None = false
can_by w a (Some c) = can w.app w.history c a

abbrev pub can_in : World → List ℕ × Act → Bool
can_in w e = can_by w e.1 (conn_of w e.0)

abbrev pub outcome_by : World → Act → Option Conn → Answer
outcome_by w a None = answer.Idle
outcome_by w a (Some c) = outcome w.app w.history c a

-- ---- what is asked of a client

abbrev pub asked_by : World → List ℕ → Ask → Option Conn → World
asked_by w name a None = w
asked_by w name a (Some c) = if can_ask c a then with_conn w name (asked w.app c a) else w

abbrev pub asked_in : List ℕ → Ask → World → World
asked_in name a w = asked_by w name a (conn_of w name)

abbrev pub can_ask_by : Ask → Option Conn → Bool
can_ask_by a None = false
can_ask_by a (Some c) = can_ask c a
