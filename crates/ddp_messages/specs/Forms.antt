-- What the tree of a field stands for, where it has the form that the field wants.
use Rattle.std.specs.Prelude.{ℕ, List, [], ◌∷◌, length, nat_le, Option, Some, None, option_map, option_and_then, Result, Ok, Err, if◌then◌else◌}
use Rattle.std.specs.Fmt.{signed_decimal}
use Rattle.serde_json.specs.Data.{Data, Items, no_items, item, Num}
use Rattle.serde_json.specs.Find.{as_str, as_array, as_number}
use Rattle.value_model.specs.Val.{Val, Entries, object, entries_of}
use Rattle.ejson_codec.specs.Reading.{max_levels, reading, number_reading}
use Rattle.ejson_codec.specs.declared.fault.EjsonFault.{EjsonFault}
use Rattle.ddp_messages.specs.Wire.{own_of}

-- how many bytes an id of a subscription or a method may have
abbrev pub max_id : ℕ
max_id = 256

abbrev pub short_enough : List ℕ → Option (List ℕ)
short_enough s = if nat_le (length s) max_id then Some s else None

-- the id of a subscription or a method: a text of at most 256 bytes
abbrev pub id_of : Data → Option (List ℕ)
id_of d = option_and_then short_enough (as_str d)

-- the id of a document: a text that is the wire form of one
abbrev pub document_id_of : Data → Option (List ℕ)
document_id_of d = option_and_then own_of (as_str d)

-- the first, and then the rest
abbrev pub with_first : {A : Type 0} → Option A → Option (List A) → Option (List A)
with_first None rest = None
with_first (Some a) rest = option_map (λ more. a ∷ more) rest

-- the elements, where each has that form
abbrev pub each_of : {A : Type 0} → (Data → Option A) → Items → Option (List A)
each_of form no_items = Some []
each_of form (item d ds) = with_first (form d) (each_of form ds)

abbrev pub texts_of : Data → Option (List (List ℕ))
texts_of d = option_and_then (each_of as_str) (as_array d)

abbrev pub ids_of : Data → Option (List (List ℕ))
ids_of d = option_and_then (each_of id_of) (as_array d)

abbrev pub ok_of : {A : Type 0} → Result A EjsonFault → Option A
ok_of (Ok a) = Some a
ok_of (Err e) = None

-- the EJSON value, of depth at most 32
abbrev pub value_of : Data → Option Val
value_of d = ok_of (reading max_levels d)

-- a list of EJSON values, each of depth at most 32 by itself
abbrev pub values_of : Data → Option (List Val)
values_of d = option_and_then (each_of value_of) (as_array d)

abbrev pub fields_of_value : Val → Option Entries
fields_of_value (object fs) = Some (entries_of fs)
fields_of_value _ = None

-- the fields of a document: an EJSON value that is an object
abbrev pub document_of : Data → Option Entries
document_of d = option_and_then fields_of_value (value_of d)

-- the decimal text of a whole number
abbrev pub decimal_of : Num → Option (List ℕ)
decimal_of n = option_map signed_decimal (ok_of (number_reading n))

abbrev pub or_else : {A : Type 0} → Option A → Option A → Option A
or_else (Some a) other = Some a
or_else None other = other

-- the code of an error: a text, or a whole number, which is taken as its decimal text
abbrev pub code_of : Data → Option (List ℕ)
code_of d = or_else (as_str d) (option_and_then decimal_of (as_number d))
