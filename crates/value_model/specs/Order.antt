-- The order of values. Between kinds: null, numbers, texts, objects, lists, bytes, booleans, dates, values of user types, as in MongoDB's comparison
-- of BSON types.
use Rattle.std.specs.Prelude.{ℕ, List, length, Bool}
use Rattle.std.specs.declared.cmp.Ordering.{Ordering}
use Rattle.std.specs.declared.cmp.Ordering.TheVariants.{Less, Equal, Greater}
use Rattle.std.specs.Ordering.{nat_cmp, int_cmp, bool_cmp, ordering_then, is_eq}
use Rattle.std.specs.Cmp.Lexicographic.{slice_cmp}
use Rattle.value_model.specs.Val.{Val, null, boolean, int, text, date, bytes, list, object, user, Vals, no_vals, val, Fields, no_fields, field}

-- texts and names, byte by byte
abbrev pub text_cmp : List ℕ → List ℕ → Ordering
text_cmp a b = slice_cmp nat_cmp a b

-- where a kind stands among the kinds
abbrev pub kind : Val → ℕ
kind null = 0
kind (int z) = 1
kind (text s) = 2
kind (object fs) = 3
kind (list vs) = 4
kind (bytes s) = 5
kind (boolean b) = 6
kind (date z) = 7
kind (user name v) = 8

-- Bytes go by length and then by content, lists element by element, objects pair by pair with the name before the value, a proper prefix first;
-- values of user types by the type's name and then by the value.
abbrev mutual
  pub compare : Val → Val → Ordering
  compare (int a) (int b) = int_cmp a b
  compare (text a) (text b) = text_cmp a b
  compare (object a) (object b) = fields_cmp a b
  compare (list a) (list b) = vals_cmp a b
  compare (bytes a) (bytes b) = ordering_then (nat_cmp (length a) (length b)) (slice_cmp nat_cmp a b)
  compare (boolean a) (boolean b) = bool_cmp a b
  compare (date a) (date b) = int_cmp a b
  compare (user m v) (user n w) = ordering_then (text_cmp m n) (compare v w)
  compare a b = nat_cmp (kind a) (kind b)

  pub vals_cmp : Vals → Vals → Ordering
  vals_cmp no_vals no_vals = Equal
  vals_cmp no_vals (val w ws) = Less
  vals_cmp (val v vs) no_vals = Greater
  vals_cmp (val v vs) (val w ws) = ordering_then (compare v w) (vals_cmp vs ws)

  pub fields_cmp : Fields → Fields → Ordering
  fields_cmp no_fields no_fields = Equal
  fields_cmp no_fields (field n w ws) = Less
  fields_cmp (field m v vs) no_fields = Greater
  fields_cmp (field m v vs) (field n w ws) = ordering_then (text_cmp m n) (ordering_then (compare v w) (fields_cmp vs ws))

-- whether two values are equal
abbrev pub same_value : Val → Val → Bool
same_value v w = is_eq (compare v w)
