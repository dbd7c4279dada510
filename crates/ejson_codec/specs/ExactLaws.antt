-- The tree that a value of the program is written as has exact numbers.
use Rattle.std.specs.Prelude.{◌≡◌, ℤ, pos, negsuc, Bool, true, false, refl}
use Rattle.std.proofs.Common.{arith, leb}
use Rattle.std.proofs.Math.Dec.{T}
use Rattle.std.proofs.lemmas.Bool.{leb-true}
use Rattle.serde_json.specs.Find.{of_integer}
use Rattle.serde_json.specs.Data.{Members}
use Rattle.value_model.specs.Val.{Val, null, boolean, int, text, date, bytes, list, object, user, Vals, no_vals, val, Fields, no_fields, field}
use Rattle.value_model.specs.Size.{names_of, is_special}
use Rattle.value_model.specs.Valid.{max_whole, IsWhole, IsValue, AreValues, HaveValues}
use Rattle.ejson_codec.specs.Written.{written, items_written, members_written, escaped_if}
use Rattle.ejson_codec.specs.Exact.{IsExactNumber, HasExactNumbers, ItemsHaveExactNumbers, MembersHaveExactNumbers}

is_true : (b : Bool) → T b → b ≡ true
is_true true h = refl
is_true false h = absurd h

exact_integer : (z : ℤ) → IsWhole z → IsExactNumber (of_integer z)
exact_integer (pos n) w = omega (arith, leb-true n max_whole (is_true (leb n max_whole) w.high.le))
exact_integer (negsuc n) w = omega (arith, leb-true n 9007199254740990 (is_true (leb n 9007199254740990) w.low.le))

pub exact_escaped : (special : Bool) (ms : Members) → MembersHaveExactNumbers ms → HasExactNumbers (escaped_if special ms)
exact_escaped true ms h = (h, tt)
exact_escaped false ms h = h

mutual
  pub exact-written : (v : Val) → IsValue v → HasExactNumbers (written v)
  exact-written null h = tt
  exact-written (boolean b) h = tt
  exact-written (int z) h = exact_integer z h
  exact-written (text s) h = tt
  exact-written (date z) h = (exact_integer z h, tt)
  exact-written (bytes s) h = (tt, tt)
  exact-written (list vs) h = exact_items vs h
  exact-written (object fs) h = exact_escaped (is_special (names_of fs)) (members_written fs) (exact_members fs h.1)
  exact-written (user name v) h = (tt, (exact-written v h.1, tt))

  pub exact_items : (vs : Vals) → AreValues vs → ItemsHaveExactNumbers (items_written vs)
  exact_items no_vals h = tt
  exact_items (val v vs) h = (exact-written v h.0, exact_items vs h.1)

  pub exact_members : (fs : Fields) → HaveValues fs → MembersHaveExactNumbers (members_written fs)
  exact_members no_fields h = tt
  exact_members (field name v fs) h = (exact-written v h.0, exact_members fs h.1)
