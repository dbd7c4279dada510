-- What a log keeps of an entry: the line that is printed of it, where the entry can be read back from the line, or a text that tells of it.
use Rattle.std.specs.Prelude.{◌≡◌, ◌≤◌, nat_le, Bool, ℕ, pos, List, [], ◌∷◌, Result, Ok, Err}
use Rattle.value_model.specs.Val.{Val, int, text, list, list_of}
use Rattle.ejson_codec.specs.declared.fault.ParseFault.{ParseFault}
use Rattle.value_model.specs.Valid.{IsValue}
use Rattle.value_model.specs.Depth.{depth}
use Rattle.ejson_codec.specs.Reading.{max_levels, parsed}
use Rattle.history_model.specs.declared.entry.Entry.{Entry}
use Rattle.history_model.specs.declared.entry.Entry.TheVariants as entry
use Rattle.ejson_value.specs.Code.{held as value_of}
use Rattle.history_log.specs.declared.kept_entry.Form.{Form}
use Rattle.history_log.specs.declared.kept_entry.Form.TheVariants as form
use Rattle.history_model.specs.Lines.{entry_value, line_of}

-- ---- what a line says

abbrev pub items_in : Val → List Val
items_in (list vs) = list_of vs
items_in v = []

abbrev pub text_in : Val → List ℕ
text_in (text s) = s
text_in v = []

abbrev pub number_in : Val → ℕ
number_in (int (pos n)) = n
number_in v = 0

abbrev pub words_in : Result Val ParseFault → List Val
words_in (Ok v) = items_in v
words_in (Err e) = []

-- the call of the session that words tell of
abbrev pub begin_in : ℕ → List Val → Entry
begin_in session (word ∷ name ∷ k ∷ method ∷ params ∷ seed ∷ more) = entry.Begin session (number_in k) (text_in method) (items_in params) (value_of seed)
begin_in session words = entry.Step session 0

-- the operation that words tell of
abbrev pub admin_in : List Val → Entry
admin_in (word ∷ op ∷ more) = entry.Admin (items_in op)
admin_in words = entry.Admin []

-- the operation that stands behind the first word
abbrev pub operation_among : List Val → List Val
operation_among (word ∷ op ∷ more) = items_in op
operation_among words = []

-- the operation that a text tells of, which need not be a line that is printed
abbrev pub told_operation : List ℕ → List Val
told_operation line = operation_among (words_in (parsed line))

-- ---- what is kept

abbrev pub entry_of : Form → Entry
entry_of (form.Step session k) = entry.Step session k
entry_of (form.Begin session line) = begin_in session (words_in (parsed line))
entry_of (form.Admin line) = admin_in (words_in (parsed line))
entry_of (form.Told line) = entry.Admin (told_operation line)
entry_of (form.Whole e) = e.value

-- a line is the one that is printed of its entry
abbrev pub HasLine : Form → Type 0
HasLine (form.Step session k) = Unit {0}
HasLine (form.Begin session line) = line ≡ line_of (entry_value (begin_in session (words_in (parsed line))))
HasLine (form.Admin line) = line ≡ line_of (entry_value (admin_in (words_in (parsed line))))
HasLine (form.Told line) = Unit {0}
HasLine (form.Whole e) = Unit {0}

-- a value that is read back from its text
pub record IsReadBack (v : Val) : Type 0 where
  pub value : IsValue v
  pub shallow : depth v ≤ max_levels

-- a value may stand in a list in a line
abbrev pub is_shallow : Val → Bool
is_shallow v = nat_le (depth v) 30

-- the text is the value's, and reads as the value
pub record Says (line : List ℕ) (v : Val) : Type 0 where
  pub printed : line ≡ line_of v
  pub read : parsed line ≡ Ok v

-- the form is the entry's
pub record Keeps (f : Form) (e : Entry) : Type 0 where
  pub is : entry_of f ≡ e
  pub line : HasLine f
