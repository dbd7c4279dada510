-- The message that an object is, by the value that is found at each key: what ServerMessage.antt and ClientMessage.antt say of its tree. No message is found
-- where the values don't tell it: one with an error, say.
use Rattle.std.specs.Prelude.{◌≡◌, ℕ, List, [], Result, Ok, Err, Option, Some, None, option_map, option_and_then, codes, if◌then◌else◌}
use Rattle.value_model.specs.Val.{Val, Vals, no_vals, val, text, list, list_of}
use Rattle.value_model.specs.Size.{is_name}
use Rattle.ejson_value.specs.declared.key.Key.{Key}
use Rattle.ejson_value.specs.declared.message.DataMsg.{DataMsg}
use Rattle.ejson_value.specs.declared.message.DataMsg.TheVariants.{Added, Changed, Removed}
use Rattle.ejson_value.specs.Key.{key_of}
use Rattle.ejson_codec.specs.declared.fault.PlainFault.{PlainFault}
use Rattle.ddp_messages.specs.Wire.{own_of}
use Rattle.ddp_messages.specs.Forms.{short_enough, with_first, fields_of_value}
use Rattle.ddp_messages.specs.Fields.{map₂, map₃}
use Rattle.ddp_messages.specs.ServerMessage.{ServerMessage, connected, nosub, ready, about, finished, updated}
use Rattle.ddp_messages.specs.ClientMessage.{ClientMessage, sub, unsub, method}

-- The call found this, if it found anything.
abbrev pub Tells : {A B : Type 0} → (A → B) → Result A PlainFault → Option B → Type 0
Tells f (Ok a) answer = answer ≡ Some (f a)
Tells f (Err e) answer = Unit {0}

-- what stands at each key of an object
abbrev pub Lookup : Type 0
Lookup = List ℕ → Option Val

-- ---- the forms

abbrev pub text_in : Val → Option (List ℕ)
text_in (text s) = Some s
text_in _ = None

abbrev pub id_in : Val → Option (List ℕ)
id_in v = option_and_then short_enough (text_in v)

abbrev pub document_id_in : Val → Option (List ℕ)
document_id_in v = option_and_then own_of (text_in v)

-- the elements, where each has that form
abbrev pub each_in : (Val → Option (List ℕ)) → Vals → Option (List (List ℕ))
each_in form no_vals = Some []
each_in form (val v vs) = with_first (form v) (each_in form vs)

abbrev pub texts_in : Val → Option (List (List ℕ))
texts_in (list vs) = each_in text_in vs
texts_in _ = None

abbrev pub ids_in : Val → Option (List (List ℕ))
ids_in (list vs) = each_in id_in vs
ids_in _ = None

abbrev pub values_in : Val → Option (List Val)
values_in (list vs) = Some (list_of vs)
values_in _ = None

-- ---- the fields

abbrev pub needed_in : {A : Type 0} → (Val → Option A) → List ℕ → Lookup → Option A
needed_in form key find = option_and_then form (find key)

abbrev pub or_default_in : {A : Type 0} → A → (Val → Option A) → Option Val → Option A
or_default_in a form None = Some a
or_default_in a form (Some v) = form v

abbrev pub defaulted_in : {A : Type 0} → A → (Val → Option A) → List ℕ → Lookup → Option A
defaulted_in a form key find = or_default_in a form (find key)

-- the answer, where no such field is there
abbrev pub unless_there : {A : Type 0} → Option Val → Option A → Option A
unless_there None answer = answer
unless_there (Some v) answer = None

-- ---- messages from a server

abbrev pub key_in : Lookup → Option Key
key_in find = map₂ key_of (needed_in text_in (codes "collection") find) (needed_in document_id_in (codes "id") find)

abbrev pub added_in : Lookup → Option DataMsg
added_in find = map₂ Added (key_in find) (defaulted_in [] fields_of_value (codes "fields") find)

abbrev pub changed_in : Lookup → Option DataMsg
changed_in find = map₃ Changed (key_in find) (defaulted_in [] fields_of_value (codes "fields") find) (defaulted_in [] texts_in (codes "cleared") find)

abbrev pub removed_in : Lookup → Option DataMsg
removed_in find = option_map Removed (key_in find)

abbrev pub over_in : List ℕ → ServerMessage
over_in id = nosub id None

abbrev pub nosub_in : Lookup → Option ServerMessage
nosub_in find = unless_there (find (codes "error")) (option_map over_in (needed_in id_in (codes "id") find))

abbrev pub finished_with : Option Val → List ℕ → ServerMessage
finished_with value id = finished id None value

abbrev pub result_in : Lookup → Option ServerMessage
result_in find = unless_there (find (codes "error")) (option_map (finished_with (find (codes "result"))) (needed_in id_in (codes "id") find))

abbrev pub data_named_in : Lookup → List ℕ → Option ServerMessage
data_named_in find name =
    if is_name name (codes "added") then option_map about (added_in find)
    else (if is_name name (codes "changed") then option_map about (changed_in find)
    else (if is_name name (codes "removed") then option_map about (removed_in find) else None))

abbrev pub answer_named_in : Lookup → List ℕ → Option ServerMessage
answer_named_in find name =
    if is_name name (codes "nosub") then nosub_in find
    else (if is_name name (codes "ready") then option_map ready (needed_in ids_in (codes "subs") find)
    else (if is_name name (codes "result") then result_in find
    else (if is_name name (codes "updated") then option_map updated (needed_in ids_in (codes "methods") find)
    else data_named_in find name)))

abbrev pub server_named_in : Lookup → List ℕ → Option ServerMessage
server_named_in find name =
    if is_name name (codes "connected") then option_map connected (needed_in text_in (codes "session") find)
    else (if is_name name (codes "failed") then None
    else (if is_name name (codes "ping") then None
    else (if is_name name (codes "pong") then None
    else (if is_name name (codes "error") then None
    else answer_named_in find name))))

abbrev pub server_in : Lookup → Option ServerMessage
server_in find = option_and_then (server_named_in find) (needed_in text_in (codes "msg") find)

-- ---- messages from a client

abbrev pub sub_in : Lookup → Option ClientMessage
sub_in find = map₃ sub (needed_in id_in (codes "id") find) (needed_in text_in (codes "name") find) (defaulted_in [] values_in (codes "params") find)

abbrev pub unsub_in : Lookup → Option ClientMessage
unsub_in find = option_map unsub (needed_in id_in (codes "id") find)

abbrev pub method_with : Option Val → List ℕ → List ℕ → List Val → ClientMessage
method_with seed id name params = method id name params seed

abbrev pub method_in : Lookup → Option ClientMessage
method_in find = map₃ (method_with (find (codes "randomSeed"))) (needed_in id_in (codes "id") find) (needed_in text_in (codes "method") find)
    (defaulted_in [] values_in (codes "params") find)

abbrev pub client_named_in : Lookup → List ℕ → Option ClientMessage
client_named_in find name =
    if is_name name (codes "connect") then None
    else (if is_name name (codes "ping") then None
    else (if is_name name (codes "pong") then None
    else (if is_name name (codes "sub") then sub_in find
    else (if is_name name (codes "unsub") then unsub_in find
    else (if is_name name (codes "method") then method_in find else None)))))

abbrev pub client_in : Lookup → Option ClientMessage
client_in find = option_and_then (client_named_in find) (needed_in text_in (codes "msg") find)
