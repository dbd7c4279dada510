-- A client with its session, and the texts that lie between them.
use Rattle.std.specs.Prelude.{ℕ, ◌+◌, ◌==◌, List, [], ◌∷◌, length, sum_by, Bool, true, false, ◌&&◌, ◌||◌, not, nat_lt, nat_le, Option, None}
use Rattle.ddp_messages.specs.ClientMessage.{ClientMessage}
use Rattle.client_model.specs.Client.{Client, new_client}
use Rattle.session_model.specs.Items.{Item}
use Rattle.session_model.specs.State.{State, state_of}

-- a message that waits to be handled, and how many bytes its text has
pub record Waiting : Type 0 where
  pub message : ClientMessage
  pub bytes : ℕ

-- a call that the store had no room for: its number, and how many entries the history had then
pub record Refusal : Type 0 where
  pub k : ℕ
  pub at : ℕ

pub record Conn : Type 0 where
  -- the client: its state, and whether it sent a text as it stands
  pub client : Client
  pub made_raw : Bool
  -- the texts on the link to the server, in order; and those on the link to the client
  pub upward : List (List ℕ)
  pub downward : List (List ℕ)
  -- the session: its number, the texts that it took, those whose messages are still to be handled, what it did, and the texts that it says: those
  -- that were sent, and those that are still to be
  pub number : ℕ
  pub received : List (List ℕ)
  pub queue : List Waiting
  pub items : List Item
  pub sent : List (List ℕ)
  pub outbox : List (List ℕ)
  -- a refusal by the store that the session has still to learn of
  pub kept : Option Refusal
  -- both are gone
  pub is_dropped : Bool

-- a client at its beginning, whose session has this number: its `connect` waits
abbrev pub new_conn : ℕ → Conn
new_conn number = record {
  client = new_client;
  made_raw = false;
  upward = [];
  downward = [];
  number = number;
  received = [];
  queue = [];
  items = [];
  sent = [];
  outbox = [];
  kept = None;
  is_dropped = false;
}

-- the session's subscriptions and calls
abbrev pub state_in : Conn → State
state_in c = state_of c.items

-- ---- limits

-- how many texts a link holds, and how many an outbox has while its session goes on
abbrev pub link_limit : ℕ
link_limit = 256

abbrev pub outbox_limit : ℕ
outbox_limit = 4096

-- how many items a journal has
abbrev pub journal_limit : ℕ
journal_limit = 262144

-- how many messages may wait to be handled, and how many bytes their texts may have together
abbrev pub waiting_limit : ℕ
waiting_limit = 4096

abbrev pub waiting_bytes : ℕ
waiting_bytes = 4194304

-- how many clients there may be at once
abbrev pub client_limit : ℕ
client_limit = 128

abbrev pub is_full : Conn → Bool
is_full c = nat_le journal_limit (length c.items)

-- no further message may wait whose text has so many bytes
abbrev pub is_crowded : List Waiting → ℕ → Bool
is_crowded queue bytes = (waiting_limit == length queue) || nat_lt waiting_bytes (sum_by (λ (w : Waiting). w.bytes) queue + bytes)

-- the session goes on: it refused no version, and its outbox isn't full
abbrev pub is_at_work : Conn → Bool
is_at_work c = not c.is_dropped && not (state_in c).failed && nat_lt (length c.outbox) outbox_limit

-- something lies there
abbrev pub has_some : {A : Type 0} → List A → Bool
has_some [] = false
has_some (x ∷ xs) = true
