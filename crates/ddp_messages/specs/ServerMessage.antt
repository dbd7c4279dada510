-- The messages from a server to a client (Meteor's DDP.md, "Establishing a DDP Connection", "Heartbeats", "Managing Data", "Remote Procedure Calls", "Errors").
use Rattle.std.specs.Prelude.{◌≡◌, ℕ, List, [], ◌∷◌, Bool, false, Option, Some, None, option_map, option_and_then, codes, if◌then◌else◌}
use Rattle.std.specs.List.{list_any}
use Rattle.serde_json.specs.Data.{Data}
use Rattle.serde_json.specs.Find.{get, as_str}
use Rattle.value_model.specs.Val.{Val}
use Rattle.value_model.specs.Size.{is_name}
use Rattle.ejson_value.specs.View.{view}
use Rattle.ejson_value.specs.declared.key.Key.{Key}
use Rattle.ejson_value.specs.declared.fault.Fault.{Fault}
use Rattle.ejson_value.specs.declared.message.DataMsg.{DataMsg}
use Rattle.ejson_value.specs.declared.message.DataMsg.TheVariants.{Added, Changed, Removed}
use Rattle.ejson_value.specs.Key.{key_of}
use Rattle.ddp_messages.specs.Forms.{id_of, document_id_of, texts_of, ids_of, value_of, document_of, code_of}
use Rattle.ddp_messages.specs.Fields.{needed, optional, defaulted, name_of, IsNamed, Has, MayHave, HasOr, map₂, map₃, map₄}
use Rattle.ddp_messages.specs.declared.from_server.FromServer.{FromServer}
use Rattle.ddp_messages.specs.declared.from_server.FromServer.TheVariants as shape

pub data ServerMessage : Type 0 where
  connected : List ℕ → ServerMessage
  failed : List ℕ → ServerMessage
  ping : Option (List ℕ) → ServerMessage
  pong : Option (List ℕ) → ServerMessage
  nosub : List ℕ → Option Fault → ServerMessage
  ready : List (List ℕ) → ServerMessage
  about : DataMsg → ServerMessage
  finished : List ℕ → Option Fault → Option Val → ServerMessage
  updated : List (List ℕ) → ServerMessage
  refused : List ℕ → Option Val → ServerMessage
  unknown : ServerMessage

-- what contracts see of a message
abbrev pub server_view : FromServer → ServerMessage
server_view (shape.Connected session) = connected session
server_view (shape.Failed version) = failed version
server_view (shape.Ping id) = ping id
server_view (shape.Pong id) = pong id
server_view (shape.Nosub id fault) = nosub id fault
server_view (shape.Ready subs) = ready subs
server_view (shape.Data message) = about message
server_view (shape.Result id fault value) = finished id fault (option_map view value)
server_view (shape.Updated methods) = updated methods
server_view (shape.Error reason offending) = refused reason (option_map view offending)
server_view shape.Unknown = unknown

-- ---- errors

abbrev pub fault_made : List ℕ → List ℕ → Option (List ℕ) → List ℕ → Fault
fault_made code kind message reason = record { code = code; reason = reason }

-- The error that an object is: `error` is its code, `errorType` any text, and `reason` and `message` are texts where they are there.
-- A missing reason is the empty text.
abbrev pub fault_of : Data → Option Fault
fault_of d = map₄ fault_made (needed code_of (codes "error") d) (needed as_str (codes "errorType") d) (optional as_str (codes "message") d)
    (defaulted [] as_str (codes "reason") d)

-- ---- data

-- which document the message is about
abbrev pub HasKey : Data → Key → Type 0
HasKey d key = Has (codes "collection") as_str d key.collection × Has (codes "id") document_id_of d key.id

abbrev pub DataReads : Data → DataMsg → Type 0
DataReads d (Added key fields) = IsNamed (codes "added") d × HasKey d key × HasOr [] (codes "fields") document_of d fields
DataReads d (Changed key fields cleared) =
    IsNamed (codes "changed") d × HasKey d key × HasOr [] (codes "fields") document_of d fields × HasOr [] (codes "cleared") texts_of d cleared
DataReads d (Removed key) = IsNamed (codes "removed") d × HasKey d key

-- the names that a server's messages have
abbrev pub server_names : List (List ℕ)
server_names =
    codes "connected" ∷ codes "failed" ∷ codes "ping" ∷ codes "pong" ∷ codes "nosub" ∷ codes "ready" ∷ codes "added" ∷ codes "changed" ∷ codes "removed"
    ∷ codes "result" ∷ codes "updated" ∷ codes "error" ∷ []

abbrev pub is_known : Option (List ℕ) → Bool
is_known None = false
is_known (Some name) = list_any (is_name name) server_names

-- Which message a JSON object is, by its fields. Other fields are ignored. One without a text `msg`, or with a name that no message has, is `unknown`.
abbrev pub ServerReads : Data → ServerMessage → Type 0
ServerReads d (connected session) = IsNamed (codes "connected") d × Has (codes "session") as_str d session
ServerReads d (failed version) = IsNamed (codes "failed") d × Has (codes "version") as_str d version
ServerReads d (ping id) = IsNamed (codes "ping") d × MayHave (codes "id") as_str d id
ServerReads d (pong id) = IsNamed (codes "pong") d × MayHave (codes "id") as_str d id
ServerReads d (nosub id fault) = IsNamed (codes "nosub") d × Has (codes "id") id_of d id × MayHave (codes "error") fault_of d fault
ServerReads d (ready subs) = IsNamed (codes "ready") d × Has (codes "subs") ids_of d subs
ServerReads d (about message) = DataReads d message
ServerReads d (finished id fault value) =
    IsNamed (codes "result") d × Has (codes "id") id_of d id × MayHave (codes "error") fault_of d fault × MayHave (codes "result") value_of d value
ServerReads d (updated methods) = IsNamed (codes "updated") d × Has (codes "methods") ids_of d methods
ServerReads d (refused reason offending) =
    IsNamed (codes "error") d × Has (codes "reason") as_str d reason × (offending ≡ option_and_then value_of (get (codes "offendingMessage") d))
ServerReads d unknown = is_known (name_of d) ≡ false

-- ---- the message that a JSON object is, if it is one

abbrev pub key_reading : Data → Option Key
key_reading d = map₂ key_of (needed as_str (codes "collection") d) (needed document_id_of (codes "id") d)

abbrev pub added_reading : Data → Option DataMsg
added_reading d = map₂ Added (key_reading d) (defaulted [] document_of (codes "fields") d)

abbrev pub changed_reading : Data → Option DataMsg
changed_reading d = map₃ Changed (key_reading d) (defaulted [] document_of (codes "fields") d) (defaulted [] texts_of (codes "cleared") d)

abbrev pub removed_reading : Data → Option DataMsg
removed_reading d = option_map Removed (key_reading d)

abbrev pub nosub_reading : Data → Option ServerMessage
nosub_reading d = map₂ nosub (needed id_of (codes "id") d) (optional fault_of (codes "error") d)

abbrev pub result_reading : Data → Option ServerMessage
result_reading d = map₃ finished (needed id_of (codes "id") d) (optional fault_of (codes "error") d) (optional value_of (codes "result") d)

abbrev pub refused_with : Option Val → List ℕ → ServerMessage
refused_with offending reason = refused reason offending

abbrev pub error_reading : Data → Option ServerMessage
error_reading d = option_map (refused_with (option_and_then value_of (get (codes "offendingMessage") d))) (needed as_str (codes "reason") d)

-- the messages of one document
abbrev pub data_named : Data → List ℕ → Option ServerMessage
data_named d name =
    if is_name name (codes "added") then option_map about (added_reading d)
    else (if is_name name (codes "changed") then option_map about (changed_reading d)
    else (if is_name name (codes "removed") then option_map about (removed_reading d) else Some unknown))

-- the answers to what a client asked for
abbrev pub answer_named : Data → List ℕ → Option ServerMessage
answer_named d name =
    if is_name name (codes "nosub") then nosub_reading d
    else (if is_name name (codes "ready") then option_map ready (needed ids_of (codes "subs") d)
    else (if is_name name (codes "result") then result_reading d
    else (if is_name name (codes "updated") then option_map updated (needed ids_of (codes "methods") d)
    else data_named d name)))

abbrev pub server_named : Data → List ℕ → Option ServerMessage
server_named d name =
    if is_name name (codes "connected") then option_map connected (needed as_str (codes "session") d)
    else (if is_name name (codes "failed") then option_map failed (needed as_str (codes "version") d)
    else (if is_name name (codes "ping") then option_map ping (optional as_str (codes "id") d)
    else (if is_name name (codes "pong") then option_map pong (optional as_str (codes "id") d)
    else (if is_name name (codes "error") then error_reading d
    else answer_named d name))))

abbrev pub unknown_unless : (List ℕ → Option ServerMessage) → Option (List ℕ) → Option ServerMessage
unknown_unless f None = Some unknown
unknown_unless f (Some name) = f name

abbrev pub server_reading : Data → Option ServerMessage
server_reading d = unknown_unless (server_named d) (name_of d)
