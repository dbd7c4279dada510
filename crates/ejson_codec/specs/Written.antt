-- The JSON tree that a value is written as.
use Rattle.std.specs.Prelude.{ℕ, List, Bool, true, false, codes}
use Rattle.serde_json.specs.Data.{Data, Items, no_items, item, Members, no_members, member}
use Rattle.serde_json.specs.Data as json
use Rattle.serde_json.specs.Find.{of_integer}
use Rattle.value_model.specs.Val.{Val, null, boolean, int, text, date, bytes, list, object, user, Vals, no_vals, val, Fields, no_fields, field}
use Rattle.value_model.specs.Size.{names_of, is_special}
use Rattle.ejson_codec.specs.Base64.{base64}

-- an object of one member
abbrev pub alone : List ℕ → Data → Data
alone key d = json.object (member key d no_members)

-- an object, under `$escape` if it would stand for something else
abbrev pub escaped_if : Bool → Members → Data
escaped_if true ms = alone (codes "$escape") (json.object ms)
escaped_if false ms = json.object ms

-- the object of a value of a user type
abbrev pub user_object : List ℕ → Data → Data
user_object name d = json.object (member (codes "$type") (json.string name) (member (codes "$value") d no_members))

abbrev mutual
  pub written : Val → Data
  written null = json.null
  written (boolean b) = json.boolean b
  written (int z) = json.number (of_integer z)
  written (text s) = json.string s
  written (date z) = alone (codes "$date") (json.number (of_integer z))
  written (bytes s) = alone (codes "$binary") (json.string (base64 s))
  written (list vs) = json.array (items_written vs)
  written (object fs) = escaped_if (is_special (names_of fs)) (members_written fs)
  written (user name v) = user_object name (written v)

  pub items_written : Vals → Items
  items_written no_vals = no_items
  items_written (val v vs) = item (written v) (items_written vs)

  pub members_written : Fields → Members
  members_written no_fields = no_members
  members_written (field name v fs) = member name (written v) (members_written fs)
