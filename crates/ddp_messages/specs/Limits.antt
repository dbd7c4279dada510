-- The limits within which a message, once written, reads as the same message; and what the values in it keep.
use Rattle.std.specs.Prelude.{ℕ, ◌≤◌, ◌<◌, List, [], ◌∷◌, length, IfSome}
use Rattle.value_model.specs.Val.{Val, object, vals_of, fields_of}
use Rattle.value_model.specs.Depth.{depth}
use Rattle.value_model.specs.Valid.{IsValue, AreValues, IsDocument}
use Rattle.ejson_codec.specs.Reading.{max_levels}
use Rattle.ejson_value.specs.declared.message.DataMsg.{DataMsg}
use Rattle.ejson_value.specs.declared.message.DataMsg.TheVariants.{Added, Changed, Removed}
use Rattle.ddp_messages.specs.Forms.{max_id}
use Rattle.ddp_messages.specs.ClientMessage.{ClientMessage}
use Rattle.ddp_messages.specs.ClientMessage as client
use Rattle.ddp_messages.specs.ServerMessage.{ServerMessage}
use Rattle.ddp_messages.specs.ServerMessage as server

-- an id of a subscription or a method
abbrev pub IsShort : List ℕ → Type 0
IsShort id = length id ≤ max_id

abbrev pub AreShort : List (List ℕ) → Type 0
AreShort [] = Unit {0}
AreShort (id ∷ ids) = IsShort id × AreShort ids

abbrev pub IsShallow : Val → Type 0
IsShallow v = depth v ≤ max_levels

abbrev pub AreShallow : List Val → Type 0
AreShallow [] = Unit {0}
AreShallow (v ∷ vs) = IsShallow v × AreShallow vs

-- the ids have at most 256 bytes, and the values at most 32 levels
abbrev pub ClientKeepsLimits : ClientMessage → Type 0
ClientKeepsLimits (client.connect version support) = Unit {0}
ClientKeepsLimits (client.ping id) = Unit {0}
ClientKeepsLimits (client.pong id) = Unit {0}
ClientKeepsLimits (client.sub id name params) = IsShort id × AreShallow params
ClientKeepsLimits (client.unsub id) = IsShort id
ClientKeepsLimits (client.method id name params seed) = IsShort id × AreShallow params × IfSome seed IsShallow

-- a document's id isn't empty, and the document has at most 32 levels
abbrev pub DataKeepsLimits : DataMsg → Type 0
DataKeepsLimits (Added key fields) = (0 < length key.id) × IsShallow (object (fields_of fields))
DataKeepsLimits (Changed key fields cleared) = (0 < length key.id) × IsShallow (object (fields_of fields))
DataKeepsLimits (Removed key) = 0 < length key.id

abbrev pub ServerKeepsLimits : ServerMessage → Type 0
ServerKeepsLimits (server.connected session) = Unit {0}
ServerKeepsLimits (server.failed version) = Unit {0}
ServerKeepsLimits (server.ping id) = Unit {0}
ServerKeepsLimits (server.pong id) = Unit {0}
ServerKeepsLimits (server.nosub id fault) = IsShort id
ServerKeepsLimits (server.ready subs) = AreShort subs
ServerKeepsLimits (server.about message) = DataKeepsLimits message
ServerKeepsLimits (server.finished id fault value) = IsShort id × IfSome value IsShallow
ServerKeepsLimits (server.updated methods) = AreShort methods
ServerKeepsLimits (server.refused reason offending) = IfSome offending IsShallow
ServerKeepsLimits server.unknown = Unit {0}

-- ---- what the values in a message keep

abbrev pub ClientHasValues : ClientMessage → Type 0
ClientHasValues (client.connect version support) = Unit {0}
ClientHasValues (client.ping id) = Unit {0}
ClientHasValues (client.pong id) = Unit {0}
ClientHasValues (client.sub id name params) = AreValues (vals_of params)
ClientHasValues (client.unsub id) = Unit {0}
ClientHasValues (client.method id name params seed) = AreValues (vals_of params) × IfSome seed IsValue

abbrev pub DataHasValues : DataMsg → Type 0
DataHasValues (Added key fields) = IsDocument fields
DataHasValues (Changed key fields cleared) = IsDocument fields
DataHasValues (Removed key) = Unit {0}

abbrev pub ServerHasValues : ServerMessage → Type 0
ServerHasValues (server.connected session) = Unit {0}
ServerHasValues (server.failed version) = Unit {0}
ServerHasValues (server.ping id) = Unit {0}
ServerHasValues (server.pong id) = Unit {0}
ServerHasValues (server.nosub id fault) = Unit {0}
ServerHasValues (server.ready subs) = Unit {0}
ServerHasValues (server.about message) = DataHasValues message
ServerHasValues (server.finished id fault value) = IfSome value IsValue
ServerHasValues (server.updated methods) = Unit {0}
ServerHasValues (server.refused reason offending) = IfSome offending IsValue
ServerHasValues server.unknown = Unit {0}
