-- The values of EJSON: those of JSON, with whole numbers alone, and dates, binary data and values of user types beside them (the EJSON appendix of
-- Meteor's DDP specification).
-- A text is the list of its UTF-8 bytes, a date is its milliseconds since 1970, and a value of a user type is the type's name with the value that
-- stands for it.
use Rattle.std.specs.Prelude.{ℕ, ℤ, Bool, List, [], ◌∷◌}

mutual
  pub data Val : Type 0 where
    null : Val
    boolean : Bool → Val
    int : ℤ → Val
    text : List ℕ → Val
    date : ℤ → Val
    bytes : List ℕ → Val
    list : Vals → Val
    object : Fields → Val
    user : List ℕ → Val → Val

  -- the elements of a list
  pub data Vals : Type 0 where
    no_vals : Vals
    val : Val → Vals → Vals

  -- the fields of an object, by rising name
  pub data Fields : Type 0 where
    no_fields : Fields
    field : List ℕ → Val → Fields → Fields

-- A document: its fields as pairs of a name and a value.
abbrev pub Entries : Type 0
Entries = List (List ℕ × Val)

abbrev pub vals_of : List Val → Vals
vals_of [] = no_vals
vals_of (v ∷ vs) = val v (vals_of vs)

abbrev pub list_of : Vals → List Val
list_of no_vals = []
list_of (val v vs) = v ∷ list_of vs

abbrev pub fields_of : Entries → Fields
fields_of [] = no_fields
fields_of (e ∷ es) = field e.0 e.1 (fields_of es)

abbrev pub entries_of : Fields → Entries
entries_of no_fields = []
entries_of (field name v fs) = (name, v) ∷ entries_of fs
