-- The JSON object that a message is written as: its members by the bytes of their keys, those that are missing left out.
use Rattle.std.specs.Prelude.{ℕ, List, [], ◌∷◌, ◌++◌, Option, Some, None, option_map, codes}
use Rattle.serde_json.specs.Data.{Data, string, array, object, Items, no_items, item, Members, no_members, member}
use Rattle.value_model.specs.Val.{Val, vals_of, Entries, fields_of}
use Rattle.value_model.specs.Val as value
use Rattle.ejson_codec.specs.Written.{written, items_written}
use Rattle.ejson_value.specs.declared.fault.Fault.{Fault}
use Rattle.ejson_value.specs.declared.message.DataMsg.{DataMsg}
use Rattle.ejson_value.specs.declared.message.DataMsg.TheVariants.{Added, Changed, Removed}
use Rattle.ddp_messages.specs.Wire.{wire_of}
use Rattle.ddp_messages.specs.ClientMessage.{ClientMessage}
use Rattle.ddp_messages.specs.ClientMessage as client
use Rattle.ddp_messages.specs.ServerMessage.{ServerMessage}
use Rattle.ddp_messages.specs.ServerMessage as server

abbrev pub with_member : List ℕ → Option Data → Members → Members
with_member key None ms = ms
with_member key (Some d) ms = member key d ms

-- each key, and the tree of its field, if it is there
abbrev pub Table : Type 0
Table = List (List ℕ × Option Data)

-- the members in this order, without the missing ones
abbrev pub present : Table → Members
present [] = no_members
present (f ∷ fs) = with_member f.0 f.1 (present fs)

abbrev pub text_tree : List ℕ → Option Data
text_tree s = Some (string s)

abbrev pub text_items : List (List ℕ) → Items
text_items [] = no_items
text_items (s ∷ ss) = item (string s) (text_items ss)

abbrev pub texts_tree : List (List ℕ) → Option Data
texts_tree ss = Some (array (text_items ss))

abbrev pub values_tree : List Val → Option Data
values_tree vs = Some (array (items_written (vals_of vs)))

abbrev pub document_tree : Entries → Option Data
document_tree es = Some (written (value.object (fields_of es)))

-- an empty list or document is left out
abbrev pub unless_empty : {A : Type 0} → (List A → Option Data) → List A → Option Data
unless_empty tree [] = None
unless_empty tree (a ∷ more) = tree (a ∷ more)

-- ---- from the client

abbrev pub client_table : ClientMessage → Table
client_table (client.connect version support) =
    (codes "msg", text_tree (codes "connect")) ∷ (codes "support", option_map (λ ss. array (text_items ss)) support) ∷ (codes "version", text_tree version) ∷ []
client_table (client.ping id) = (codes "id", option_map string id) ∷ (codes "msg", text_tree (codes "ping")) ∷ []
client_table (client.pong id) = (codes "id", option_map string id) ∷ (codes "msg", text_tree (codes "pong")) ∷ []
client_table (client.sub id name params) =
    (codes "id", text_tree id) ∷ (codes "msg", text_tree (codes "sub")) ∷ (codes "name", text_tree name) ∷ (codes "params", values_tree params) ∷ []
client_table (client.unsub id) = (codes "id", text_tree id) ∷ (codes "msg", text_tree (codes "unsub")) ∷ []
client_table (client.method id name params seed) =
    (codes "id", text_tree id) ∷ (codes "method", text_tree name) ∷ (codes "msg", text_tree (codes "method")) ∷ (codes "params", values_tree params)
    ∷ (codes "randomSeed", option_map written seed) ∷ []

abbrev pub client_members : ClientMessage → Members
client_members message = present (client_table message)

abbrev pub client_written : ClientMessage → Data
client_written message = object (client_members message)

-- ---- from the server

-- the message of an error: its reason, a space, and its code in square brackets
abbrev pub told : Fault → List ℕ
told fault = fault.reason ++ codes " [" ++ fault.code ++ codes "]"

abbrev pub fault_table : Fault → Table
fault_table fault =
    (codes "error", text_tree fault.code) ∷ (codes "errorType", text_tree (codes "Meteor.Error")) ∷ (codes "message", text_tree (told fault)) ∷
    (codes "reason", text_tree fault.reason) ∷ []

abbrev pub fault_written : Fault → Data
fault_written fault = object (present (fault_table fault))

-- `added` always has `fields`; `changed` has no empty `fields` and no empty `cleared`
abbrev pub data_table : DataMsg → Table
data_table (Added key fields) =
    (codes "collection", text_tree key.collection) ∷ (codes "fields", document_tree fields) ∷ (codes "id", text_tree (wire_of key.id)) ∷
    (codes "msg", text_tree (codes "added")) ∷ []
data_table (Changed key fields cleared) =
    (codes "cleared", unless_empty texts_tree cleared) ∷ (codes "collection", text_tree key.collection) ∷ (codes "fields", unless_empty document_tree fields)
    ∷ (codes "id", text_tree (wire_of key.id)) ∷ (codes "msg", text_tree (codes "changed")) ∷ []
data_table (Removed key) =
    (codes "collection", text_tree key.collection) ∷ (codes "id", text_tree (wire_of key.id)) ∷ (codes "msg", text_tree (codes "removed")) ∷ []

abbrev pub server_table : ServerMessage → Table
server_table (server.connected session) = (codes "msg", text_tree (codes "connected")) ∷ (codes "session", text_tree session) ∷ []
server_table (server.failed version) = (codes "msg", text_tree (codes "failed")) ∷ (codes "version", text_tree version) ∷ []
server_table (server.ping id) = (codes "id", option_map string id) ∷ (codes "msg", text_tree (codes "ping")) ∷ []
server_table (server.pong id) = (codes "id", option_map string id) ∷ (codes "msg", text_tree (codes "pong")) ∷ []
server_table (server.nosub id fault) =
    (codes "error", option_map fault_written fault) ∷ (codes "id", text_tree id) ∷ (codes "msg", text_tree (codes "nosub")) ∷ []
server_table (server.ready subs) = (codes "msg", text_tree (codes "ready")) ∷ (codes "subs", texts_tree subs) ∷ []
server_table (server.about message) = data_table message
server_table (server.finished id fault value) =
    (codes "error", option_map fault_written fault) ∷ (codes "id", text_tree id) ∷ (codes "msg", text_tree (codes "result")) ∷
    (codes "result", option_map written value) ∷ []
server_table (server.updated methods) = (codes "methods", texts_tree methods) ∷ (codes "msg", text_tree (codes "updated")) ∷ []
server_table (server.refused reason offending) =
    (codes "msg", text_tree (codes "error")) ∷ (codes "offendingMessage", option_map written offending) ∷ (codes "reason", text_tree reason) ∷ []
server_table server.unknown = []

abbrev pub data_members : DataMsg → Members
data_members message = present (data_table message)

abbrev pub server_members : ServerMessage → Members
server_members message = present (server_table message)

abbrev pub server_written : ServerMessage → Data
server_written message = object (server_members message)
