-- What is kept of a client with its session, and which client and session of a world that is.
use Rattle.std.specs.Prelude.{◌≡◌, ℕ, List, [], ◌∷◌, length, Bool, false, Option, None}
use Rattle.ddp_messages.specs.ClientMessage.{ClientMessage}
use Rattle.app_model.specs.App.{App}
use Rattle.world_invariant_laws.specs.history_model.declared.entry.Entry.{Entry}
use Rattle.client_model.specs.Client.{new_client}
use Rattle.client_core.specs.State.{Own}
use Rattle.world_invariant_laws.specs.session_model.Items.{Item}
use Rattle.session_laws.specs.session_journal_laws.declared.stored.Stored.{Stored}
use Rattle.session_laws.specs.session_journal_laws.Stands.{items_of}
use Rattle.session_laws.specs.Session.{ASession, new_session}
use Rattle.session_laws.specs.Storing.{kept_as}
use Rattle.session_laws.specs.Meaning.{Means}
use Rattle.world_invariant_laws.specs.world_model.Store.{moments}
use Rattle.world_invariant_laws.specs.world_model.Conn.{Waiting, Refusal, Conn}

pub record AConnection : Type 0 where
  -- the client, with its application and its name, and whether it sent a text as it stands
  pub own : Own
  pub made_raw : Bool
  -- the texts on the link to the server, and those on the link to the client
  pub upward : List (List ℕ)
  pub downward : List (List ℕ)
  pub session : ASession
  -- the texts that the session took, and those that were sent
  pub received : List (List ℕ)
  pub sent : List (List ℕ)
  -- a refusal by the store that the session has still to learn of
  pub kept : Option Refusal
  -- both are gone
  pub is_dropped : Bool

-- a client of this name at its beginning, whose session has this number
abbrev pub new_connection : App → List ℕ → ℕ → AConnection
new_connection app name number = record {
  own = record { app = app; name = name; client = new_client };
  made_raw = false;
  upward = [];
  downward = [];
  session = new_session app number;
  received = [];
  sent = [];
  kept = None;
  is_dropped = false;
}

-- ---- as the world's definitions see it

-- the messages that wait, with the bytes of their texts
abbrev pub waiting_of : List ClientMessage → List ℕ → List Waiting
waiting_of [] bytes = []
waiting_of (m ∷ ms) [] = []
waiting_of (m ∷ ms) (n ∷ bytes) = record { message = m; bytes = n } ∷ waiting_of ms bytes

abbrev pub as_conn : AConnection → Conn
as_conn x = record {
  client = x.own.client;
  made_raw = x.made_raw;
  upward = x.upward;
  downward = x.downward;
  number = x.session.carried.number;
  received = x.received;
  queue = waiting_of x.session.carried.waiting x.session.bytes;
  items = items_of x.received x.session.carried;
  sent = x.sent;
  outbox = x.session.carried.outbox;
  kept = x.kept;
  is_dropped = x.is_dropped;
}

-- ---- what stays so

-- this is what a session keeps of the item
pub record IsKeptOf (s : Stored) (i : Item) : Type 0 where
  pub place : ℕ
  pub is : s ≡ kept_as place i

abbrev pub AreKeptOf : List Stored → List Item → Type 0
AreKeptOf [] [] = Unit {0}
AreKeptOf [] (i ∷ items) = ⊥
AreKeptOf (s ∷ ss) [] = ⊥
AreKeptOf (s ∷ ss) (i ∷ items) = IsKeptOf s i × AreKeptOf ss items

-- The client has this name, and it and its session are of this application; the session stands for the texts that it took, the moments of this
-- history and the texts that were sent.
pub record IsConnection (app : App) (name : List ℕ) (history : List Entry) (x : AConnection) : Type 0 where
  pub stubs : x.own.app ≡ app
  pub named : x.own.name ≡ name
  pub served : x.session.carried.app ≡ app
  pub means : Means x.received (moments app x.session.carried.number history) x.sent x.session
  pub bytes : length x.session.bytes ≡ length x.session.carried.waiting
  pub dropped : x.session.dropped ≡ x.is_dropped
  pub kinds : AreKeptOf x.session.carried.journal (items_of x.received x.session.carried)
