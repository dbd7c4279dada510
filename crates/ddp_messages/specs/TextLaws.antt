-- What was written has no float and nests within what JSON texts may, so that its text is exact and reads back.
use Rattle.std.specs.Prelude.{◌≡◌, ℕ, ◌≤◌, false, List, [], ◌∷◌, Option, Some, None, option_map, IfSome, refl}
use Rattle.std.proofs.Common.{arith}
use Rattle.std.proofs.lemmas.Bool.{or_from}
use Rattle.serde_json.specs.Data.{Data, string, array, object, Members, depth, items_depth, members_depth}
use Rattle.serde_json.specs.Read as json
use Rattle.serde_json.specs.Written.{has_float, items_have_float, members_have_float}
use Rattle.value_model.specs.Val.{Val, Vals, vals_of, Entries, fields_of}
use Rattle.value_model.specs.Val as value
use Rattle.value_model.specs.Depth.{vals_depth}
use Rattle.ejson_codec.specs.Reading.{max_levels}
use Rattle.ejson_codec.specs.Written.{written}
use Rattle.ejson_codec.specs.TreeLaws.{has_float-written, depth-written}
use Rattle.ejson_value.specs.declared.fault.Fault.{Fault}
use Rattle.ejson_value.specs.declared.message.DataMsg.{DataMsg}
use Rattle.ejson_value.specs.declared.message.DataMsg.TheVariants.{Added, Changed, Removed}
use Rattle.ddp_messages.specs.ClientMessage.{ClientMessage}
use Rattle.ddp_messages.specs.ClientMessage as client
use Rattle.ddp_messages.specs.ServerMessage.{ServerMessage}
use Rattle.ddp_messages.specs.ServerMessage as server
use Rattle.ddp_messages.specs.Written.{Table, with_member, present, text_items, unless_empty, texts_tree, document_tree, fault_written, client_table}
use Rattle.ddp_messages.specs.Written.{client_members, client_written, data_table, data_members, server_table, server_members, server_written}
use Rattle.ddp_messages.specs.Limits.{IsShallow, AreShallow, ClientKeepsLimits, DataKeepsLimits, ServerKeepsLimits}

-- each tree of the table that is there is such
abbrev pub Each : (Data → Type 0) → Table → Type 0
Each P [] = Unit {0}
Each P (f ∷ fs) = IfSome f.1 P × Each P fs

pub if_mapped : {A : Type 0} (P : Data → Type 0) (tree : A → Data) (o : Option A) → ((a : A) → P (tree a)) → IfSome (option_map tree o) P
if_mapped P tree None all = tt
if_mapped P tree (Some a) all = all a

-- ---- floats

abbrev NoFloat : Data → Type 0
NoFloat d = has_float d ≡ false

with_no_float : (key : List ℕ) (o : Option Data) (ms : Members) → IfSome o NoFloat → members_have_float ms ≡ false →
    members_have_float (with_member key o ms) ≡ false
with_no_float key None ms h rest = rest
with_no_float key (Some d) ms h rest = or_from (has_float d) (members_have_float ms) h rest

present_no_float : (fs : Table) → Each NoFloat fs → members_have_float (present fs) ≡ false
present_no_float [] h = refl
present_no_float (f ∷ fs) h = with_no_float f.0 f.1 (present fs) h.0 (present_no_float fs h.1)

texts_no_float : (ss : List (List ℕ)) → items_have_float (text_items ss) ≡ false
texts_no_float [] = refl
texts_no_float (s ∷ ss) = texts_no_float ss

fault_no_float : (fault : Fault) → NoFloat (fault_written fault)
fault_no_float fault = refl

values_no_float : (vs : List Val) → NoFloat (written (value.list (vals_of vs)))
values_no_float vs = has_float-written (value.list (vals_of vs))

document_no_float : (es : Entries) → NoFloat (written (value.object (fields_of es)))
document_no_float es = has_float-written (value.object (fields_of es))

pub client_no_float : (m : ClientMessage) → has_float (client_written m) ≡ false
client_no_float (client.connect version support) = present_no_float (client_table (client.connect version support))
    (refl, (if_mapped NoFloat (λ ss. array (text_items ss)) support texts_no_float, (refl, tt)))
client_no_float (client.ping id) = present_no_float (client_table (client.ping id)) (if_mapped NoFloat string id (λ s. refl), (refl, tt))
client_no_float (client.pong id) = present_no_float (client_table (client.pong id)) (if_mapped NoFloat string id (λ s. refl), (refl, tt))
client_no_float (client.sub id name params) = present_no_float (client_table (client.sub id name params)) (refl, (refl, (refl, (values_no_float params, tt))))
client_no_float (client.unsub id) = refl
client_no_float (client.method id name params seed) = present_no_float (client_table (client.method id name params seed))
    (refl, (refl, (refl, (values_no_float params, (if_mapped NoFloat written seed has_float-written, tt)))))

cleared_no_float : (ss : List (List ℕ)) → IfSome (unless_empty texts_tree ss) NoFloat
cleared_no_float [] = tt
cleared_no_float (s ∷ ss) = texts_no_float ss

fields_no_float : (es : Entries) → IfSome (unless_empty document_tree es) NoFloat
fields_no_float [] = tt
fields_no_float (e ∷ es) = document_no_float (e ∷ es)

data_no_float : (m : DataMsg) → has_float (object (data_members m)) ≡ false
data_no_float (Added key fields) = present_no_float (data_table (Added key fields)) (refl, (document_no_float fields, (refl, (refl, tt))))
data_no_float (Changed key fields cleared) =
    present_no_float (data_table (Changed key fields cleared)) (cleared_no_float cleared, (refl, (fields_no_float fields, (refl, (refl, tt)))))
data_no_float (Removed key) = refl

pub server_no_float : (m : ServerMessage) → has_float (server_written m) ≡ false
server_no_float (server.connected session) = refl
server_no_float (server.failed version) = refl
server_no_float (server.ping id) = present_no_float (server_table (server.ping id)) (if_mapped NoFloat string id (λ s. refl), (refl, tt))
server_no_float (server.pong id) = present_no_float (server_table (server.pong id)) (if_mapped NoFloat string id (λ s. refl), (refl, tt))
server_no_float (server.nosub id fault) =
    present_no_float (server_table (server.nosub id fault)) (if_mapped NoFloat fault_written fault fault_no_float, (refl, (refl, tt)))
server_no_float (server.ready subs) = present_no_float (server_table (server.ready subs)) (refl, (texts_no_float subs, tt))
server_no_float (server.about message) = data_no_float message
server_no_float (server.finished id fault value) =
    present_no_float (server_table (server.finished id fault value))
    (if_mapped NoFloat fault_written fault fault_no_float, (refl, (refl, (if_mapped NoFloat written value has_float-written, tt))))
server_no_float (server.updated methods) = present_no_float (server_table (server.updated methods)) (texts_no_float methods, (refl, tt))
server_no_float (server.refused reason offending) =
    present_no_float (server_table (server.refused reason offending)) (refl, (if_mapped NoFloat written offending has_float-written, (refl, tt)))
server_no_float server.unknown = refl

-- ---- depth: twice the levels of a value and one more, for the deepest list of values

abbrev most : ℕ
most = 67

abbrev Low : Data → Type 0
Low d = depth d ≤ most

with_low : (key : List ℕ) (o : Option Data) (ms : Members) → IfSome o Low → members_depth ms ≤ most → members_depth (with_member key o ms) ≤ most
with_low key None ms h rest = rest
with_low key (Some d) ms h rest = omega (arith, h, rest)

present_low : (fs : Table) → Each Low fs → members_depth (present fs) ≤ most
present_low [] h = omega arith
present_low (f ∷ fs) h = with_low f.0 f.1 (present fs) h.0 (present_low fs h.1)

flat_texts : (ss : List (List ℕ)) → items_depth (text_items ss) ≤ 0
flat_texts [] = omega arith
flat_texts (s ∷ ss) = omega (arith, flat_texts ss)

low_text : (s : List ℕ) → Low (string s)
low_text s = omega arith

low_texts : (ss : List (List ℕ)) → Low (array (text_items ss))
low_texts ss = omega (arith, flat_texts ss)

low_fault : (fault : Fault) → Low (fault_written fault)
low_fault fault = omega arith

low_value : (v : Val) → IsShallow v → Low (written v)
low_value v h = omega (arith, depth-written v, h)

shallow_vals : (vs : List Val) → AreShallow vs → vals_depth (vals_of vs) ≤ max_levels
shallow_vals [] h = omega arith
shallow_vals (v ∷ vs) h = omega (arith, h.0, shallow_vals vs h.1)

low_values : (vs : List Val) → AreShallow vs → Low (written (value.list (vals_of vs)))
low_values vs h = omega (arith, depth-written (value.list (vals_of vs)), shallow_vals vs h)

low_optional : (o : Option Val) → IfSome o IsShallow → IfSome (option_map written o) Low
low_optional None h = tt
low_optional (Some v) h = low_value v h

within_json : (ms : Members) → members_depth ms ≤ most → depth (object ms) ≤ json.max_depth
within_json ms h = omega (arith, h)

client_low : (m : ClientMessage) → ClientKeepsLimits m → members_depth (client_members m) ≤ most
client_low (client.connect version support) h = present_low (client_table (client.connect version support))
    (low_text [], (if_mapped Low (λ ss. array (text_items ss)) support low_texts, (low_text version, tt)))
client_low (client.ping id) h = present_low (client_table (client.ping id)) (if_mapped Low string id low_text, (low_text [], tt))
client_low (client.pong id) h = present_low (client_table (client.pong id)) (if_mapped Low string id low_text, (low_text [], tt))
client_low (client.sub id name params) h =
    present_low (client_table (client.sub id name params)) (low_text id, (low_text [], (low_text name, (low_values params h.1, tt))))
client_low (client.unsub id) h = present_low (client_table (client.unsub id)) (low_text id, (low_text [], tt))
client_low (client.method id name params seed) h = present_low (client_table (client.method id name params seed))
    (low_text id, (low_text name, (low_text [], (low_values params h.1, (low_optional seed h.2, tt)))))

pub client_depth : (m : ClientMessage) → ClientKeepsLimits m → depth (client_written m) ≤ json.max_depth
client_depth m h = within_json (client_members m) (client_low m h)

low_cleared : (ss : List (List ℕ)) → IfSome (unless_empty texts_tree ss) Low
low_cleared [] = tt
low_cleared (s ∷ ss) = low_texts (s ∷ ss)

low_fields : (es : Entries) → IsShallow (value.object (fields_of es)) → IfSome (unless_empty document_tree es) Low
low_fields [] h = tt
low_fields (e ∷ es) h = low_value (value.object (fields_of (e ∷ es))) h

data_low : (m : DataMsg) → DataKeepsLimits m → members_depth (data_members m) ≤ most
data_low (Added key fields) h = present_low (data_table (Added key fields))
    (low_text key.collection, (low_value (value.object (fields_of fields)) h.1, (low_text [], (low_text [], tt))))
data_low (Changed key fields cleared) h = present_low (data_table (Changed key fields cleared))
    (low_cleared cleared, (low_text key.collection, (low_fields fields h.1, (low_text [], (low_text [], tt)))))
data_low (Removed key) h = present_low (data_table (Removed key)) (low_text key.collection, (low_text [], (low_text [], tt)))

server_low : (m : ServerMessage) → ServerKeepsLimits m → members_depth (server_members m) ≤ most
server_low (server.connected session) h = present_low (server_table (server.connected session)) (low_text [], (low_text session, tt))
server_low (server.failed version) h = present_low (server_table (server.failed version)) (low_text [], (low_text version, tt))
server_low (server.ping id) h = present_low (server_table (server.ping id)) (if_mapped Low string id low_text, (low_text [], tt))
server_low (server.pong id) h = present_low (server_table (server.pong id)) (if_mapped Low string id low_text, (low_text [], tt))
server_low (server.nosub id fault) h =
    present_low (server_table (server.nosub id fault)) (if_mapped Low fault_written fault low_fault, (low_text id, (low_text [], tt)))
server_low (server.ready subs) h = present_low (server_table (server.ready subs)) (low_text [], (low_texts subs, tt))
server_low (server.about message) h = data_low message h
server_low (server.finished id fault value) h = present_low (server_table (server.finished id fault value))
    (if_mapped Low fault_written fault low_fault, (low_text id, (low_text [], (low_optional value h.1, tt))))
server_low (server.updated methods) h = present_low (server_table (server.updated methods)) (low_texts methods, (low_text [], tt))
server_low (server.refused reason offending) h =
    present_low (server_table (server.refused reason offending)) (low_text [], (low_optional offending h, (low_text reason, tt)))
server_low server.unknown h = omega arith

pub server_depth : (m : ServerMessage) → ServerKeepsLimits m → depth (server_written m) ≤ json.max_depth
server_depth m h = within_json (server_members m) (server_low m h)
