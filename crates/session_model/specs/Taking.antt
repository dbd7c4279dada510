-- What a session makes of a text that it takes. The first rule that holds decides (DDP.md, "Establishing a DDP Connection", "Heartbeats", "Errors";
-- the order and the reasons are ours).
use Rattle.std.specs.Prelude.{ℕ, List, [], ◌∷◌, ◌++◌, Bool, true, not, ◌&&◌, nat_lt, length, codes, Option, Some, None, is_some, if◌then◌else◌}
use Rattle.serde_json.specs.Data.{Data}
use Rattle.serde_json.specs.Find.{as_object}
use Rattle.serde_json.specs.Read as json
use Rattle.value_model.specs.Val.{Val}
use Rattle.value_model.specs.Size.{is_name}
use Rattle.ddp_messages.specs.Fields.{name_of}
use Rattle.ddp_messages.specs.Forms.{value_of}
use Rattle.ddp_messages.specs.ClientMessage.{ClientMessage, client_reading}
use Rattle.ddp_messages.specs.ClientMessage as client
use Rattle.session_model.specs.Items.{Item}
use Rattle.session_model.specs.Items as item

-- how many bytes a text may have that a session reads
abbrev pub max_text : ℕ
max_text = 2097152

-- what comes of a text: an item at once, or a message that waits in the queue until it is handled
pub data Taken : Type 0 where
  at_once : Item → Taken
  to_queue : ClientMessage → Taken

-- the object that an `error` shows, where the whole of it reads as an EJSON value
abbrev pub offending_of : Data → Option Val
offending_of d = if is_some (as_object d) then value_of d else None

abbrev pub refused_for : List ℕ → Data → Taken
refused_for reason d = at_once (item.bad reason (offending_of d))

-- this session's version is "1"
abbrev pub connected_by : List ℕ → Item
connected_by version = if is_name version (codes "1") then item.connect else item.fail

-- a message of its form, or none
abbrev pub taken_as : Data → Option ClientMessage → Taken
taken_as d None = refused_for (codes "Bad request") d
taken_as d (Some (client.connect version support)) = at_once (connected_by version)
taken_as d (Some (client.ping id)) = at_once (item.ping id)
taken_as d (Some (client.pong id)) = at_once item.pong
taken_as d (Some message) = to_queue message

abbrev pub taken_named : Bool → Data → Option (List ℕ) → Taken
taken_named connected d None = refused_for (codes "Bad request") d
taken_named connected d (Some name) =
    if not connected && not (is_name name (codes "connect")) then refused_for (codes "Must connect first") d
    else (if connected && is_name name (codes "connect") then refused_for (codes "Already connected") d
    else taken_as d (client_reading d))

abbrev pub taken_tree : Bool → Option Data → Taken
taken_tree connected None = at_once (item.bad (codes "Parse error") None)
taken_tree connected (Some d) = taken_named connected d (name_of d)

-- what a session that is connected, or isn't, makes of a text
abbrev pub taken_text : Bool → List ℕ → Taken
taken_text connected t = if nat_lt max_text (length t) then at_once (item.bad (codes "Bad request") None) else taken_tree connected (json.read t)

-- ---- over all texts that a session took

abbrev pub connects : Bool → Taken → Bool
connects connected (at_once item.connect) = true
connects connected taken = connected

abbrev pub item_of : Taken → List Item
item_of (at_once i) = i ∷ []
item_of (to_queue message) = []

abbrev pub message_of : Taken → List ClientMessage
message_of (at_once i) = []
message_of (to_queue message) = message ∷ []

-- whether a session is connected that took these texts
abbrev pub is_connected_by : Bool → List (List ℕ) → Bool
is_connected_by connected [] = connected
is_connected_by connected (t ∷ ts) = is_connected_by (connects connected (taken_text connected t)) ts

-- the items that they make at once, and the messages of those that go into the queue, in order
abbrev pub answered_from : Bool → List (List ℕ) → List Item
answered_from connected [] = []
answered_from connected (t ∷ ts) = item_of (taken_text connected t) ++ answered_from (connects connected (taken_text connected t)) ts

abbrev pub queued_from : Bool → List (List ℕ) → List ClientMessage
queued_from connected [] = []
queued_from connected (t ∷ ts) = message_of (taken_text connected t) ++ queued_from (connects connected (taken_text connected t)) ts
