-- How many bytes a value's EJSON text has: compact JSON, where an object whose names are those of a special form stands under `$escape`.
use Rattle.std.specs.Prelude.{ℕ, ◌+◌, ◌*◌, ◌/◌, max, Bool, true, false, List, [], ◌∷◌, length, sum_by, codes, bytes_eq, nat_lt, if◌then◌else◌, ◌&&◌, ◌||◌, ◌==◌}
use Rattle.std.specs.Fmt.{signed_decimal}
use Rattle.value_model.specs.Val.{Val, null, boolean, int, text, date, bytes, list, object, user, Vals, no_vals, val, Fields, no_fields, field}

-- The bytes that stand for one byte of a text in JSON: `\"`, `\\` and the control characters with a letter of their own take two, each other control
-- character six, as `\u001f`.
abbrev pub has_short_escape : ℕ → Bool
has_short_escape b = (b == 34) || (b == 92) || (b == 8) || (b == 9) || (b == 10) || (b == 12) || (b == 13)

abbrev pub escape_size : ℕ → ℕ
escape_size b = if has_short_escape b then 2 else (if nat_lt b 32 then 6 else 1)

-- a text in its quotes
abbrev pub text_size : List ℕ → ℕ
text_size s = 2 + sum_by escape_size s

-- base64: four letters for each three bytes begun
abbrev pub base64_size : ℕ → ℕ
base64_size n = 4 * ((n + 2) / 3)

-- the names of a document, as a list
abbrev pub names_of : Fields → List (List ℕ)
names_of no_fields = []
names_of (field name v fs) = name ∷ names_of fs

abbrev pub is_name : List ℕ → List ℕ → Bool
is_name = bytes_eq

-- whether the names are those of a special form: `$date`, `$binary`, `$escape`, `$InfNaN` alone, `$flags` with `$regexp`, or `$type` with `$value`
abbrev pub is_special : List (List ℕ) → Bool
is_special [] = false
is_special (a ∷ []) = is_name a (codes "$date") || is_name a (codes "$binary") || is_name a (codes "$escape") || is_name a (codes "$InfNaN")
is_special (a ∷ b ∷ []) = (is_name a (codes "$flags") && is_name b (codes "$regexp")) || (is_name a (codes "$type") && is_name b (codes "$value"))
is_special (a ∷ b ∷ c ∷ names) = false

-- `{"$date":` and `}`; `{"$binary":"` and `"}`; `{"$escape":` and `}`
abbrev pub date_wrapper : ℕ
date_wrapper = 10

abbrev pub binary_wrapper : ℕ
binary_wrapper = 14

abbrev pub escape_wrapper : ℕ
escape_wrapper = 12

-- `{"$type":`, `,"$value":` and `}`
abbrev pub user_wrapper : ℕ
user_wrapper = 20

-- In brackets each element has a comma before it, in place of which the first has the opening bracket; an empty list or object has its two brackets alone.
abbrev mutual
  pub size : Val → ℕ
  size null = 4
  size (boolean true) = 4
  size (boolean false) = 5
  size (int z) = length (signed_decimal z)
  size (text s) = text_size s
  size (date z) = date_wrapper + length (signed_decimal z)
  size (bytes s) = binary_wrapper + base64_size (length s)
  size (list vs) = max 2 (1 + vals_size vs)
  size (object fs) = (if is_special (names_of fs) then escape_wrapper else 0) + max 2 (1 + fields_size fs)
  size (user name v) = user_wrapper + text_size name + size v

  pub vals_size : Vals → ℕ
  vals_size no_vals = 0
  vals_size (val v vs) = 1 + size v + vals_size vs

  pub fields_size : Fields → ℕ
  fields_size no_fields = 0
  fields_size (field name v fs) = 2 + text_size name + size v + fields_size fs
