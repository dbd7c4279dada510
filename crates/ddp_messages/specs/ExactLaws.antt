-- What a message is written as has exact numbers.
use Rattle.std.specs.Prelude.{ℕ, List, [], ◌∷◌, Option, Some, None, option_map, IfSome}
use Rattle.serde_json.specs.Data.{Data, string, array, Members}
use Rattle.value_model.specs.Val.{Val, vals_of, Entries, fields_of}
use Rattle.value_model.specs.Size.{names_of, is_special}
use Rattle.value_model.specs.Valid.{IsValue, IsDocument}
use Rattle.ejson_value.specs.declared.fault.Fault.{Fault}
use Rattle.ejson_value.specs.declared.message.DataMsg.{DataMsg}
use Rattle.ejson_value.specs.declared.message.DataMsg.TheVariants.{Added, Changed, Removed}
use Rattle.ejson_codec.specs.Exact.{HasExactNumbers, ItemsHaveExactNumbers, MembersHaveExactNumbers}
use Rattle.ejson_codec.specs.ExactLaws.{exact-written, exact_items, exact_members, exact_escaped}
use Rattle.ejson_codec.specs.Written.{written, members_written}
use Rattle.ddp_messages.specs.ClientMessage.{ClientMessage}
use Rattle.ddp_messages.specs.ClientMessage as client
use Rattle.ddp_messages.specs.ServerMessage.{ServerMessage}
use Rattle.ddp_messages.specs.ServerMessage as server
use Rattle.ddp_messages.specs.Limits.{ClientHasValues, DataHasValues, ServerHasValues}
use Rattle.ddp_messages.specs.TextLaws.{Each, if_mapped}
use Rattle.ddp_messages.specs.Written.{Table, with_member, present, text_items, unless_empty, texts_tree, document_tree, fault_written}
use Rattle.ddp_messages.specs.Written.{client_table, client_written, data_table, data_members, server_table, server_written}

with_exact : (key : List ℕ) (o : Option Data) (ms : Members) → IfSome o HasExactNumbers → MembersHaveExactNumbers ms →
    MembersHaveExactNumbers (with_member key o ms)
with_exact key None ms h rest = rest
with_exact key (Some d) ms h rest = (h, rest)

present_exact : (fs : Table) → Each HasExactNumbers fs → MembersHaveExactNumbers (present fs)
present_exact [] h = tt
present_exact (f ∷ fs) h = with_exact f.0 f.1 (present fs) h.0 (present_exact fs h.1)

texts_exact : (ss : List (List ℕ)) → ItemsHaveExactNumbers (text_items ss)
texts_exact [] = tt
texts_exact (s ∷ ss) = (tt, texts_exact ss)

text_exact : (o : Option (List ℕ)) → IfSome (option_map string o) HasExactNumbers
text_exact o = if_mapped HasExactNumbers string o (λ s. tt)

fault_exact : (fault : Fault) → HasExactNumbers (fault_written fault)
fault_exact fault = (tt, (tt, (tt, (tt, tt))))

value_exact : (o : Option Val) → IfSome o IsValue → IfSome (option_map written o) HasExactNumbers
value_exact None h = tt
value_exact (Some v) h = exact-written v h

document_exact : (es : Entries) → IsDocument es → IfSome (document_tree es) HasExactNumbers
document_exact es d = exact_escaped (is_special (names_of (fields_of es))) (members_written (fields_of es)) (exact_members (fields_of es) d.values)

fields_exact : (es : Entries) → IsDocument es → IfSome (unless_empty document_tree es) HasExactNumbers
fields_exact [] d = tt
fields_exact (e ∷ es) d = document_exact (e ∷ es) d

cleared_exact : (ss : List (List ℕ)) → IfSome (unless_empty texts_tree ss) HasExactNumbers
cleared_exact [] = tt
cleared_exact (s ∷ ss) = texts_exact (s ∷ ss)

pub client_exact : (m : ClientMessage) → ClientHasValues m → HasExactNumbers (client_written m)
client_exact (client.connect version support) h = present_exact (client_table (client.connect version support))
    (tt, (if_mapped HasExactNumbers (λ ss. array (text_items ss)) support texts_exact, (tt, tt)))
client_exact (client.ping id) h = present_exact (client_table (client.ping id)) (text_exact id, (tt, tt))
client_exact (client.pong id) h = present_exact (client_table (client.pong id)) (text_exact id, (tt, tt))
client_exact (client.sub id name params) h = present_exact (client_table (client.sub id name params)) (tt, (tt, (tt, (exact_items (vals_of params) h, tt))))
client_exact (client.unsub id) h = (tt, (tt, tt))
client_exact (client.method id name params seed) h =
    present_exact (client_table (client.method id name params seed)) (tt, (tt, (tt, (exact_items (vals_of params) h.0, (value_exact seed h.1, tt)))))

data_exact : (m : DataMsg) → DataHasValues m → MembersHaveExactNumbers (data_members m)
data_exact (Added key fields) h = present_exact (data_table (Added key fields)) (tt, (document_exact fields h, (tt, (tt, tt))))
data_exact (Changed key fields cleared) h =
    present_exact (data_table (Changed key fields cleared)) (cleared_exact cleared, (tt, (fields_exact fields h, (tt, (tt, tt)))))
data_exact (Removed key) h = (tt, (tt, (tt, tt)))

pub server_exact : (m : ServerMessage) → ServerHasValues m → HasExactNumbers (server_written m)
server_exact (server.connected session) h = (tt, (tt, tt))
server_exact (server.failed version) h = (tt, (tt, tt))
server_exact (server.ping id) h = present_exact (server_table (server.ping id)) (text_exact id, (tt, tt))
server_exact (server.pong id) h = present_exact (server_table (server.pong id)) (text_exact id, (tt, tt))
server_exact (server.nosub id fault) h =
    present_exact (server_table (server.nosub id fault)) (if_mapped HasExactNumbers fault_written fault fault_exact, (tt, (tt, tt)))
server_exact (server.ready subs) h = (tt, (texts_exact subs, tt))
server_exact (server.about message) h = data_exact message h
server_exact (server.finished id fault value) h =
    present_exact (server_table (server.finished id fault value))
    (if_mapped HasExactNumbers fault_written fault fault_exact, (tt, (tt, (value_exact value h, tt))))
server_exact (server.updated methods) h = (texts_exact methods, (tt, tt))
server_exact (server.refused reason offending) h = present_exact (server_table (server.refused reason offending)) (tt, (value_exact offending h, (tt, tt)))
server_exact server.unknown h = tt
