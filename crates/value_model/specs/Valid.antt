-- What every value of the program keeps: numbers and dates of 53 bits and a sign, bytes below 256, the fields of an object by strictly rising name,
-- names of user types of 1 to 128 bytes.
use Rattle.std.specs.Prelude.{ℕ, List, ◌<◌, ◌≤◌, length, ℤ, pos, neg_ℤ, ◌≤ℤ◌, All}
use Rattle.std.specs.List.Sorted.{IsStrictlySortedBy}
use Rattle.std.specs.Map.{keys_of}
use Rattle.value_model.specs.Val.{Val, null, boolean, int, text, date, bytes, list, object, user, Vals, no_vals, val, Fields, no_fields, field}
use Rattle.value_model.specs.Val.{Entries, entries_of, fields_of}
use Rattle.value_model.specs.Order.{text_cmp}

-- the greatest whole number that a double holds together with each lesser one
abbrev pub max_whole : ℕ
max_whole = 9007199254740991

pub record IsWhole (z : ℤ) : Type 0 where
  pub low : neg_ℤ (pos max_whole) ≤ℤ z
  pub high : z ≤ℤ pos max_whole

-- the most bytes that the name of a user type has
abbrev pub max_user_name : ℕ
max_user_name = 128

pub record IsUserName (name : List ℕ) : Type 0 where
  pub some : 0 < length name
  pub short : length name ≤ max_user_name

-- the names of a document rise strictly, so that none stands twice
abbrev pub HasRisingNames : Entries → Type 0
HasRisingNames es = IsStrictlySortedBy text_cmp (keys_of es)

abbrev mutual
  pub IsValue : Val → Type 0
  IsValue null = Unit {0}
  IsValue (boolean b) = Unit {0}
  IsValue (int z) = IsWhole z
  IsValue (text s) = Unit {0}
  IsValue (date z) = IsWhole z
  IsValue (bytes s) = All (λ b. b < 256) s
  IsValue (list vs) = AreValues vs
  IsValue (object fs) = HasRisingNames (entries_of fs) × HaveValues fs
  IsValue (user name v) = IsUserName name × IsValue v

  pub AreValues : Vals → Type 0
  AreValues no_vals = Unit {0}
  AreValues (val v vs) = IsValue v × AreValues vs

  pub HaveValues : Fields → Type 0
  HaveValues no_fields = Unit {0}
  HaveValues (field name v fs) = IsValue v × HaveValues fs

-- a document of the program
pub record IsDocument (es : Entries) : Type 0 where
  pub names : HasRisingNames es
  pub values : HaveValues (fields_of es)
