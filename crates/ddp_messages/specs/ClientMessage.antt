-- The messages from a client to a server (Meteor's DDP.md, "Establishing a DDP Connection", "Heartbeats", "Managing Data", "Remote Procedure Calls").
use Rattle.std.specs.Prelude.{ℕ, List, [], Option, None, option_map, option_and_then, codes, if◌then◌else◌}
use Rattle.serde_json.specs.Data.{Data}
use Rattle.serde_json.specs.Find.{as_str}
use Rattle.value_model.specs.Val.{Val}
use Rattle.value_model.specs.Size.{is_name}
use Rattle.ejson_value.specs.View.{view}
use Rattle.ddp_messages.specs.Forms.{id_of, texts_of, value_of, values_of}
use Rattle.ddp_messages.specs.Fields.{needed, optional, defaulted, name_of, IsNamed, Has, MayHave, HasOr, map₂, map₃, map₄}
use Rattle.ddp_messages.specs.declared.from_client.FromClient.{FromClient}
use Rattle.ddp_messages.specs.declared.from_client.FromClient.TheVariants as shape

pub data ClientMessage : Type 0 where
  connect : List ℕ → Option (List (List ℕ)) → ClientMessage
  ping : Option (List ℕ) → ClientMessage
  pong : Option (List ℕ) → ClientMessage
  sub : List ℕ → List ℕ → List Val → ClientMessage
  unsub : List ℕ → ClientMessage
  method : List ℕ → List ℕ → List Val → Option Val → ClientMessage

-- what contracts see of a message
abbrev pub client_view : FromClient → ClientMessage
client_view (shape.Connect version support) = connect version support
client_view (shape.Ping id) = ping id
client_view (shape.Pong id) = pong id
client_view (shape.Sub id name params) = sub id name params
client_view (shape.Unsub id) = unsub id
client_view (shape.Method id name params seed) = method id name params (option_map view seed)

-- Which message a JSON object is, by its fields. Other fields are ignored, `session` of `connect` among them.
abbrev pub ClientReads : Data → ClientMessage → Type 0
ClientReads d (connect version support) = IsNamed (codes "connect") d × Has (codes "version") as_str d version × MayHave (codes "support") texts_of d support
ClientReads d (ping id) = IsNamed (codes "ping") d × MayHave (codes "id") as_str d id
ClientReads d (pong id) = IsNamed (codes "pong") d × MayHave (codes "id") as_str d id
ClientReads d (sub id name params) =
    IsNamed (codes "sub") d × Has (codes "id") id_of d id × Has (codes "name") as_str d name × HasOr [] (codes "params") values_of d params
ClientReads d (unsub id) = IsNamed (codes "unsub") d × Has (codes "id") id_of d id
ClientReads d (method id name params seed) =
    IsNamed (codes "method") d × Has (codes "id") id_of d id × Has (codes "method") as_str d name × HasOr [] (codes "params") values_of d params
    × MayHave (codes "randomSeed") value_of d seed

-- ---- the message that a JSON object is, if it is one

abbrev pub connect_reading : Data → Option ClientMessage
connect_reading d = map₂ connect (needed as_str (codes "version") d) (optional texts_of (codes "support") d)

abbrev pub ping_reading : Data → Option ClientMessage
ping_reading d = option_map ping (optional as_str (codes "id") d)

abbrev pub pong_reading : Data → Option ClientMessage
pong_reading d = option_map pong (optional as_str (codes "id") d)

abbrev pub sub_reading : Data → Option ClientMessage
sub_reading d = map₃ sub (needed id_of (codes "id") d) (needed as_str (codes "name") d) (defaulted [] values_of (codes "params") d)

abbrev pub unsub_reading : Data → Option ClientMessage
unsub_reading d = option_map unsub (needed id_of (codes "id") d)

abbrev pub method_reading : Data → Option ClientMessage
method_reading d =
    map₄ method (needed id_of (codes "id") d) (needed as_str (codes "method") d) (defaulted [] values_of (codes "params") d)
    (optional value_of (codes "randomSeed") d)

abbrev pub client_named : Data → List ℕ → Option ClientMessage
client_named d name =
    if is_name name (codes "connect") then connect_reading d
    else (if is_name name (codes "ping") then ping_reading d
    else (if is_name name (codes "pong") then pong_reading d
    else (if is_name name (codes "sub") then sub_reading d
    else (if is_name name (codes "unsub") then unsub_reading d
    else (if is_name name (codes "method") then method_reading d else None)))))

abbrev pub client_reading : Data → Option ClientMessage
client_reading d = option_and_then (client_named d) (name_of d)
