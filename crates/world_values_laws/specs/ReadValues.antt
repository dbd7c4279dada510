-- What is read as a value of EJSON is one, where the keys of each object rise; so are the values in messages from clients.
use Rattle.std.specs.Prelude.{◌≡◌, List}
use Rattle.std.specs.Map.{keys_of}
use Rattle.serde_json.specs.Data.{Members}
use Rattle.value_model.specs.Val.{Val, vals_of, Entries, fields_of}
use Rattle.value_model.specs.Valid.{IsValue, AreValues, HaveValues}
use Rattle.ejson_codec.specs.Shape.{keys_of_members}
use Rattle.ddp_messages.specs.Limits.{IsShallow, AreShallow, ClientKeepsLimits, ClientHasValues}
use Rattle.ddp_messages.specs.ClientMessage.{ClientMessage}

-- ---- values

-- fields of values, under the keys of these members
abbrev pub AreLike : Members → Entries → Type 0
AreLike ms es = HaveValues (fields_of es) × (keys_of es ≡ keys_of_members ms)

abbrev pub IsRead : Val → Type 0
IsRead v = IsValue v × IsShallow v

-- ---- the fields of a message

abbrev pub AreRead : List Val → Type 0
AreRead vs = AreValues (vals_of vs) × AreShallow vs

-- ---- messages

-- a message whose values are the program's, within the limits of messages
pub record IsFine (m : ClientMessage) : Type 0 where
  pub values : ClientHasValues m
  pub limits : ClientKeepsLimits m
