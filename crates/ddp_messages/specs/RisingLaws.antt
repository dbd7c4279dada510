-- The keys of what was written rise, byte by byte.
use Rattle.std.specs.Prelude.{◌≡◌, ℕ, List, [], ◌∷◌, Bool, true, false, ◌&&◌, Option, Some, None, option_map, IfSome, refl}
use Rattle.std.proofs.lemmas.Bool.{and_parts}
use Rattle.std.specs.List.{list_all, AllByRecursion}
use Rattle.std.specs.List.Sorted.{IsStrictlySortedBy}
use Rattle.std.specs.Map.{keys_of}
use Rattle.std.specs.declared.cmp.Ordering.{Ordering}
use Rattle.std.specs.declared.cmp.Ordering.TheVariants.{Less, Equal, Greater}
use Rattle.serde_json.specs.Data.{Data, string, array, object}
use Rattle.value_model.specs.Val.{Val, vals_of, Entries, fields_of}
use Rattle.value_model.specs.Val as value
use Rattle.value_model.specs.Order.{text_cmp}
use Rattle.value_model.specs.Valid.{IsValue, AreValues, IsDocument}
use Rattle.value_model.specs.ValidLaws.{IsValue-object}
use Rattle.ejson_codec.specs.Shape.{keys_of_members}
use Rattle.ejson_codec.specs.Trees.{HasRisingKeys, ItemsHaveRisingKeys, MembersHaveRisingKeys}
use Rattle.ejson_codec.specs.TreeLaws.{rising_written}
use Rattle.ejson_codec.specs.Written.{written}
use Rattle.ejson_value.specs.declared.fault.Fault.{Fault}
use Rattle.ejson_value.specs.declared.message.DataMsg.{DataMsg}
use Rattle.ejson_value.specs.declared.message.DataMsg.TheVariants.{Added, Changed, Removed}
use Rattle.ddp_messages.specs.ClientMessage.{ClientMessage}
use Rattle.ddp_messages.specs.ClientMessage as client
use Rattle.ddp_messages.specs.ServerMessage.{ServerMessage}
use Rattle.ddp_messages.specs.ServerMessage as server
use Rattle.ddp_messages.specs.Written.{Table, with_member, present, text_items, unless_empty, texts_tree, document_tree, fault_table, fault_written}
use Rattle.ddp_messages.specs.Written.{client_table, client_written, data_table, server_table, server_written}
use Rattle.ddp_messages.specs.Limits.{ClientHasValues, DataHasValues, ServerHasValues}
use Rattle.ddp_messages.specs.TextLaws.{Each, if_mapped}

-- ---- the keys of a table

abbrev is_less : Ordering → Bool
is_less Less = true
is_less Equal = false
is_less Greater = false

-- whether each key is below all later ones
abbrev rises : List (List ℕ) → Bool
rises [] = true
rises (key ∷ keys) = list_all (λ later. is_less (text_cmp key later)) keys && rises keys

less : (o : Ordering) → is_less o ≡ true → o ≡ Less
less Less h = refl
less Equal h = absurd (cc h)
less Greater h = absurd (cc h)

below_all : (key : List ℕ) (keys : List (List ℕ)) → list_all (λ later. is_less (text_cmp key later)) keys ≡ true →
    AllByRecursion (λ later. text_cmp key later ≡ Less) keys
below_all key [] h = tt
below_all key (later ∷ keys) h =
    let p = and_parts (is_less (text_cmp key later)) (list_all (λ (x : List ℕ). is_less (text_cmp key x)) keys) h in
    (less (text_cmp key later) p.0, below_all key keys p.1)

all_with : (P : List ℕ → Type 0) (key : List ℕ) (o : Option Data) (fs : Table) → P key → AllByRecursion P (keys_of_members (present fs)) →
    AllByRecursion P (keys_of_members (with_member key o (present fs)))
all_with P key None fs here rest = rest
all_with P key (Some d) fs here rest = (here, rest)

all_present : (P : List ℕ → Type 0) (fs : Table) → AllByRecursion P (keys_of fs) → AllByRecursion P (keys_of_members (present fs))
all_present P [] h = tt
all_present P (f ∷ fs) h = all_with P f.0 f.1 fs h.0 (all_present P fs h.1)

sorted_with : (key : List ℕ) (o : Option Data) (fs : Table) → AllByRecursion (λ later. text_cmp key later ≡ Less) (keys_of_members (present fs))
    → IsStrictlySortedBy text_cmp (keys_of_members (present fs)) → IsStrictlySortedBy text_cmp (keys_of_members (with_member key o (present fs)))
unfolding IsStrictlySortedBy
sorted_with key None fs here rest = rest
sorted_with key (Some d) fs here rest = (here, rest)

nothing_sorted : IsStrictlySortedBy text_cmp []
unfolding IsStrictlySortedBy
nothing_sorted = tt

sorted_present : (fs : Table) → rises (keys_of fs) ≡ true → IsStrictlySortedBy text_cmp (keys_of_members (present fs))
sorted_present [] h = nothing_sorted
sorted_present (f ∷ fs) h =
    let p = and_parts (list_all (λ (later : List ℕ). is_less (text_cmp f.0 later)) (keys_of fs)) (rises (keys_of fs)) h in
    sorted_with f.0 f.1 fs (all_present (λ later. text_cmp f.0 later ≡ Less) fs (below_all f.0 (keys_of fs) p.0)) (sorted_present fs p.1)

-- ---- what stands at them

rising_with : (key : List ℕ) (o : Option Data) (fs : Table) → IfSome o HasRisingKeys → MembersHaveRisingKeys (present fs) →
    MembersHaveRisingKeys (with_member key o (present fs))
rising_with key None fs h rest = rest
rising_with key (Some d) fs h rest = (h, rest)

rising_present : (fs : Table) → Each HasRisingKeys fs → MembersHaveRisingKeys (present fs)
rising_present [] h = tt
rising_present (f ∷ fs) h = rising_with f.0 f.1 fs h.0 (rising_present fs h.1)

of_table : (fs : Table) → rises (keys_of fs) ≡ true → Each HasRisingKeys fs → HasRisingKeys (object (present fs))
of_table fs keys inside = (sorted_present fs keys, rising_present fs inside)

rising_texts : (ss : List (List ℕ)) → ItemsHaveRisingKeys (text_items ss)
rising_texts [] = tt
rising_texts (s ∷ ss) = (tt, rising_texts ss)

rising_fault : (fault : Fault) → HasRisingKeys (fault_written fault)
rising_fault fault = of_table (fault_table fault) refl (tt, (tt, (tt, (tt, tt))))

rising_values : (vs : List Val) → AreValues (vals_of vs) → HasRisingKeys (written (value.list (vals_of vs)))
rising_values vs h = rising_written (value.list (vals_of vs)) h

rising_optional : (o : Option Val) → IfSome o IsValue → IfSome (option_map written o) HasRisingKeys
rising_optional None h = tt
rising_optional (Some v) h = rising_written v h

rising_document : (es : Entries) → IsDocument es → HasRisingKeys (written (value.object (fields_of es)))
rising_document es h = rising_written (value.object (fields_of es)) (IsValue-object es h)

rising_cleared : (ss : List (List ℕ)) → IfSome (unless_empty texts_tree ss) HasRisingKeys
rising_cleared [] = tt
rising_cleared (s ∷ ss) = rising_texts (s ∷ ss)

rising_fields : (es : Entries) → IsDocument es → IfSome (unless_empty document_tree es) HasRisingKeys
rising_fields [] h = tt
rising_fields (e ∷ es) h = rising_document (e ∷ es) h

rising_text_option : (o : Option (List ℕ)) → IfSome (option_map string o) HasRisingKeys
rising_text_option o = if_mapped HasRisingKeys string o (λ s. tt)

pub client_rising : (m : ClientMessage) → ClientHasValues m → HasRisingKeys (client_written m)
client_rising (client.connect version support) h =
    of_table (client_table (client.connect version support)) refl (tt, (if_mapped HasRisingKeys (λ ss. array (text_items ss)) support rising_texts, (tt, tt)))
client_rising (client.ping id) h = of_table (client_table (client.ping id)) refl (rising_text_option id, (tt, tt))
client_rising (client.pong id) h = of_table (client_table (client.pong id)) refl (rising_text_option id, (tt, tt))
client_rising (client.sub id name params) h = of_table (client_table (client.sub id name params)) refl (tt, (tt, (tt, (rising_values params h, tt))))
client_rising (client.unsub id) h = of_table (client_table (client.unsub id)) refl (tt, (tt, tt))
client_rising (client.method id name params seed) h =
    of_table (client_table (client.method id name params seed)) refl (tt, (tt, (tt, (rising_values params h.0, (rising_optional seed h.1, tt)))))

data_rising : (m : DataMsg) → DataHasValues m → HasRisingKeys (object (present (data_table m)))
data_rising (Added key fields) h = of_table (data_table (Added key fields)) refl (tt, (rising_document fields h, (tt, (tt, tt))))
data_rising (Changed key fields cleared) h =
    of_table (data_table (Changed key fields cleared)) refl (rising_cleared cleared, (tt, (rising_fields fields h, (tt, (tt, tt)))))
data_rising (Removed key) h = of_table (data_table (Removed key)) refl (tt, (tt, (tt, tt)))

pub server_rising : (m : ServerMessage) → ServerHasValues m → HasRisingKeys (server_written m)
server_rising (server.connected session) h = of_table (server_table (server.connected session)) refl (tt, (tt, tt))
server_rising (server.failed version) h = of_table (server_table (server.failed version)) refl (tt, (tt, tt))
server_rising (server.ping id) h = of_table (server_table (server.ping id)) refl (rising_text_option id, (tt, tt))
server_rising (server.pong id) h = of_table (server_table (server.pong id)) refl (rising_text_option id, (tt, tt))
server_rising (server.nosub id fault) h =
    of_table (server_table (server.nosub id fault)) refl (if_mapped HasRisingKeys fault_written fault rising_fault, (tt, (tt, tt)))
server_rising (server.ready subs) h = of_table (server_table (server.ready subs)) refl (tt, (rising_texts subs, tt))
server_rising (server.about message) h = data_rising message h
server_rising (server.finished id fault value) h =
    of_table (server_table (server.finished id fault value)) refl
    (if_mapped HasRisingKeys fault_written fault rising_fault, (tt, (tt, (rising_optional value h, tt))))
server_rising (server.updated methods) h = of_table (server_table (server.updated methods)) refl (rising_texts methods, (tt, tt))
server_rising (server.refused reason offending) h = of_table (server_table (server.refused reason offending)) refl (tt, (rising_optional offending h, (tt, tt)))
server_rising server.unknown h = of_table [] refl tt
