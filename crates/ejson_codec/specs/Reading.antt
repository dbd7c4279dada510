-- What reading a JSON tree answers: its value, or its first fault in depth-first order, the elements of a list in order and the members of an object by key.
use Rattle.std.specs.Prelude.{◌≡◌, ℕ, zero, suc, ℤ, pos, neg_ℤ, int_le, Bool, ◌&&◌, nat_lt, nat_le, length, List, [], ◌∷◌, Option, Some, None, Result}
use Rattle.std.specs.Prelude.{Ok, Err, if◌then◌else◌}
use Rattle.serde_json.specs.Data.{Num, Data, Items, no_items, item, Members, no_members, member}
use Rattle.serde_json.specs.Data as json
use Rattle.serde_json.specs.Find.{as_integer}
use Rattle.serde_json.specs.Read as json_text
use Rattle.value_model.specs.Val.{Val, null, boolean, int, text, date, bytes, list, object, user, vals_of, Entries, fields_of}
use Rattle.value_model.specs.Valid.{max_whole, max_user_name}
use Rattle.ejson_value.specs.Results.{made}
use Rattle.ejson_codec.specs.Shape.{keys_of_members, shape_of, first_of}
use Rattle.ejson_codec.specs.Base64.{bytes_of}
use Rattle.ejson_codec.specs.declared.shape.Shape.{Shape}
use Rattle.ejson_codec.specs.declared.shape.Shape.TheVariants.{Plain, Date, Binary, Escape, User, Unsupported}
use Rattle.ejson_codec.specs.declared.fault.EjsonFault.{EjsonFault}
use Rattle.ejson_codec.specs.declared.fault.EjsonFault.TheVariants as fault
use Rattle.ejson_codec.specs.declared.fault.ReadFault.{ReadFault}
use Rattle.ejson_codec.specs.declared.fault.ReadFault.TheVariants as read_fault
use Rattle.ejson_codec.specs.declared.fault.ParseFault.{ParseFault}
use Rattle.ejson_codec.specs.declared.fault.ParseFault.TheVariants as parse_fault

-- how many lists, objects and values of user types may stand in one another
abbrev pub max_levels : ℕ
max_levels = 32

abbrev pub is_whole : ℤ → Bool
is_whole z = int_le (neg_ℤ (pos max_whole)) z && int_le z (pos max_whole)

abbrev pub whole_reading : Option ℤ → Result ℤ EjsonFault
whole_reading None = Err fault.BadNumber
whole_reading (Some z) = if is_whole z then Ok z else Err fault.BadNumber

abbrev pub number_reading : Num → Result ℤ EjsonFault
number_reading n = whole_reading (as_integer n)

abbrev pub date_reading : Data → Result Val EjsonFault
date_reading (json.number n) = made date (number_reading n)
date_reading _ = Err fault.BadDate

abbrev pub bytes_reading : Option (List ℕ) → Result Val EjsonFault
bytes_reading None = Err fault.BadBinary
bytes_reading (Some b) = Ok (bytes b)

abbrev pub binary_reading : Data → Result Val EjsonFault
binary_reading (json.string s) = bytes_reading (bytes_of s)
binary_reading _ = Err fault.BadBinary

abbrev pub is_user_name : List ℕ → Bool
is_user_name s = nat_lt 0 (length s) && nat_le (length s) max_user_name

abbrev pub name_reading : Data → Result (List ℕ) EjsonFault
name_reading (json.string s) = if is_user_name s then Ok s else Err fault.BadUser
name_reading _ = Err fault.BadUser

-- a value of a user type, the fault of its name before that of what stands behind it
abbrev pub user_made : Result (List ℕ) EjsonFault → Result Val EjsonFault → Result Val EjsonFault
user_made (Ok name) inner = made (user name) inner
user_made (Err e) inner = Err e

-- one level further down, if there is one
abbrev pub below : {A : Type 0} → ℕ → (ℕ → Result A EjsonFault) → Result A EjsonFault
below zero f = Err fault.TooDeep
below (suc levels) f = f levels

abbrev pub list_made : Result (List Val) EjsonFault → Result Val EjsonFault
list_made r = made (λ vs. list (vals_of vs)) r

abbrev pub object_made : Result Entries EjsonFault → Result Val EjsonFault
object_made r = made (λ es. object (fields_of es)) r

-- the first, and then the rest
abbrev pub with_item : Result Val EjsonFault → Result (List Val) EjsonFault → Result (List Val) EjsonFault
with_item (Ok v) rest = made (λ vs. v ∷ vs) rest
with_item (Err e) rest = Err e

abbrev pub with_field : List ℕ → Result Val EjsonFault → Result Entries EjsonFault → Result Entries EjsonFault
with_field key (Ok v) rest = made (λ es. (key, v) ∷ es) rest
with_field key (Err e) rest = Err e

-- the answer for what the object stands for
abbrev pub by_shape : Shape → Result Val EjsonFault → Result Val EjsonFault → Result Val EjsonFault → Result Val EjsonFault → Result Val EjsonFault →
    Result Val EjsonFault
by_shape Plain on_plain on_date on_binary on_escape on_user = on_plain
by_shape Date on_plain on_date on_binary on_escape on_user = on_date
by_shape Binary on_plain on_date on_binary on_escape on_user = on_binary
by_shape Escape on_plain on_date on_binary on_escape on_user = on_escape
by_shape User on_plain on_date on_binary on_escape on_user = on_user
by_shape Unsupported on_plain on_date on_binary on_escape on_user = Err fault.Unsupported

-- with so many levels left
abbrev mutual
  pub reading : ℕ → Data → Result Val EjsonFault
  reading levels json.null = Ok null
  reading levels (json.boolean b) = Ok (boolean b)
  reading levels (json.number n) = made int (number_reading n)
  reading levels (json.string s) = Ok (text s)
  reading levels (json.array ds) = list_made (below levels (λ left. items_reading left ds))
  reading levels (json.object ms) = by_shape (shape_of (keys_of_members ms))
      (object_made (below levels (λ left. members_reading left ms)))
      (date_reading (first_of ms)) (binary_reading (first_of ms)) (escape_reading levels ms) (user_reading levels ms)

  pub items_reading : ℕ → Items → Result (List Val) EjsonFault
  items_reading levels no_items = Ok []
  items_reading levels (item d ds) = with_item (reading levels d) (items_reading levels ds)

  pub members_reading : ℕ → Members → Result Entries EjsonFault
  members_reading levels no_members = Ok []
  members_reading levels (member key d ms) = with_field key (reading levels d) (members_reading levels ms)

  pub escape_reading : ℕ → Members → Result Val EjsonFault
  escape_reading levels (member key (json.object inner) ms) = object_made (below levels (λ left. members_reading left inner))
  escape_reading levels _ = Err fault.BadEscape

  pub user_reading : ℕ → Members → Result Val EjsonFault
  user_reading levels (member key named (member other d ms)) = below levels (λ left. user_made (name_reading named) (reading left d))
  user_reading levels _ = Err fault.BadUser

abbrev pub as_parsed : Result Val EjsonFault → Result Val ParseFault
as_parsed (Ok v) = Ok v
as_parsed (Err e) = Err (parse_fault.Ejson e)

-- the answer to a text: its tree's, if it is JSON
abbrev pub tree_parsed : Option Data → Result Val ParseFault
tree_parsed None = Err parse_fault.NotJson
tree_parsed (Some d) = as_parsed (reading max_levels d)

abbrev pub parsed : List ℕ → Result Val ParseFault
parsed input = tree_parsed (json_text.read input)

-- The call answers this, want of memory aside.
abbrev pub Gives : {A B : Type 0} → (A → B) → Result A ReadFault → Result B EjsonFault → Type 0
Gives f (Ok a) answer = answer ≡ Ok (f a)
Gives f (Err (read_fault.Ejson e)) answer = answer ≡ Err e
Gives f (Err read_fault.Memory) answer = Unit {0}

abbrev pub GivesParse : {A B : Type 0} → (A → B) → Result A ParseFault → Result B ParseFault → Type 0
GivesParse f (Ok a) answer = answer ≡ Ok (f a)
GivesParse f (Err parse_fault.NotJson) answer = answer ≡ Err parse_fault.NotJson
GivesParse f (Err (parse_fault.Ejson e)) answer = answer ≡ Err (parse_fault.Ejson e)
GivesParse f (Err parse_fault.Memory) answer = Unit {0}
