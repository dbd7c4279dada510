-- A value's tree is in the form that a text is read into, and nests at most twice as deep as the value.
use Rattle.std.specs.Prelude.{◌≡◌, ℕ, ◌+◌, ◌*◌, ◌≤◌, ℤ, pos, negsuc, ◌<ℤ◌, Bool, true, false, List, [], ◌∷◌, codes, refl}
use Rattle.std.proofs.Common.{sym, ap, ◌∙◌, subst, arith}
use Rattle.std.proofs.lemmas.Int.{ints}
use Rattle.std.proofs.lemmas.Bool.{or_from}
use Rattle.std.specs.Map.{keys_of}
use Rattle.std.specs.List.Sorted.{IsStrictlySortedBy}
use Rattle.serde_json.specs.Data.{Data, Items, no_items, item, Members, no_members, member}
use Rattle.serde_json.specs.Data as json
use Rattle.serde_json.specs.Find.{of_integer, is_float}
use Rattle.serde_json.specs.Written.{has_float, items_have_float, members_have_float}
use Rattle.value_model.specs.Val.{Val, null, boolean, int, text, date, bytes, list, object, user, Vals, no_vals, val, Fields, no_fields, field, entries_of}
use Rattle.value_model.specs.Valid.{IsValue, AreValues, HaveValues}
use Rattle.value_model.specs.Order.{text_cmp}
use Rattle.value_model.specs.Depth.{depth, vals_depth, fields_depth}
use Rattle.value_model.specs.Size.{names_of, is_special}
use Rattle.ejson_codec.specs.Shape.{keys_of_members}
use Rattle.ejson_codec.specs.Written.{escaped_if, written, items_written, members_written}
use Rattle.ejson_codec.specs.WrittenLaws.{keys_of_members-members_written, plain_names}
use Rattle.ejson_codec.specs.Trees.{IsHeldOnce, HoldsNumbersOnce, ItemsHoldNumbersOnce, MembersHoldNumbersOnce, IsTree, HasRisingKeys}
use Rattle.ejson_codec.specs.Trees.{ItemsHaveRisingKeys, MembersHaveRisingKeys, IsEscapedExactly, ItemsAreEscapedExactly, MembersAreEscapedExactly}

-- ---- numbers

below_zero : (n : ℕ) → negsuc n <ℤ pos 0
below_zero n = omega (arith, ints)

held_once : (z : ℤ) → IsHeldOnce (of_integer z)
held_once (pos n) = tt
held_once (negsuc n) = below_zero n

escaped_holds : (special : Bool) (ms : Members) → MembersHoldNumbersOnce ms → HoldsNumbersOnce (escaped_if special ms)
escaped_holds true ms h = (h, tt)
escaped_holds false ms h = h

mutual
  holds_written : (v : Val) → HoldsNumbersOnce (written v)
  holds_written null = tt
  holds_written (boolean b) = tt
  holds_written (int z) = held_once z
  holds_written (text s) = tt
  holds_written (date z) = (held_once z, tt)
  holds_written (bytes s) = (tt, tt)
  holds_written (list vs) = items_hold_written vs
  holds_written (object fs) = escaped_holds (is_special (names_of fs)) (members_written fs) (members_hold_written fs)
  holds_written (user name v) = (tt, (holds_written v, tt))

  items_hold_written : (vs : Vals) → ItemsHoldNumbersOnce (items_written vs)
  items_hold_written no_vals = tt
  items_hold_written (val v vs) = (holds_written v, items_hold_written vs)

  members_hold_written : (fs : Fields) → MembersHoldNumbersOnce (members_written fs)
  members_hold_written no_fields = tt
  members_hold_written (field name v fs) = (holds_written v, members_hold_written fs)

-- ---- keys

names_of-keys_of : (fs : Fields) → names_of fs ≡ keys_of (entries_of fs)
names_of-keys_of no_fields = refl
names_of-keys_of (field name v fs) = ap (λ (ks : List (List ℕ)). name ∷ ks) (names_of-keys_of fs)

one_rises : (key : List ℕ) → IsStrictlySortedBy text_cmp (key ∷ [])
unfolding IsStrictlySortedBy
one_rises key = (tt, tt)

user_keys_rise : IsStrictlySortedBy text_cmp (codes "$type" ∷ codes "$value" ∷ [])
unfolding IsStrictlySortedBy
user_keys_rise = ((refl, tt), (tt, tt))

escaped_rises : (special : Bool) (ms : Members) → IsStrictlySortedBy text_cmp (keys_of_members ms) → MembersHaveRisingKeys ms →
    HasRisingKeys (escaped_if special ms)
escaped_rises true ms keys h = (one_rises (codes "$escape"), ((keys, h), tt))
escaped_rises false ms keys h = (keys, h)

mutual
  pub rising_written : (v : Val) → IsValue v → HasRisingKeys (written v)
  rising_written null h = tt
  rising_written (boolean b) h = tt
  rising_written (int z) h = tt
  rising_written (text s) h = tt
  rising_written (date z) h = (one_rises (codes "$date"), (tt, tt))
  rising_written (bytes s) h = (one_rises (codes "$binary"), (tt, tt))
  rising_written (list vs) h = items_rising_written vs h
  rising_written (object fs) h =
      escaped_rises (is_special (names_of fs)) (members_written fs)
      (subst (IsStrictlySortedBy text_cmp) (sym (keys_of_members-members_written fs ∙ names_of-keys_of fs)) h.0) (members_rising_written fs h.1)
  rising_written (user name v) h = (user_keys_rise, (tt, (rising_written v h.1, tt)))

  items_rising_written : (vs : Vals) → AreValues vs → ItemsHaveRisingKeys (items_written vs)
  items_rising_written no_vals h = tt
  items_rising_written (val v vs) h = (rising_written v h.0, items_rising_written vs h.1)

  members_rising_written : (fs : Fields) → HaveValues fs → MembersHaveRisingKeys (members_written fs)
  members_rising_written no_fields h = tt
  members_rising_written (field name v fs) h = (rising_written v h.0, members_rising_written fs h.1)

pub IsTree-written : (v : Val) → IsValue v → IsTree (written v)
IsTree-written v h = record { numbers = holds_written v; keys = rising_written v h }

-- ---- `$escape`

escaped_exactly : (special : Bool) (ms : Members) → is_special (keys_of_members ms) ≡ special → MembersAreEscapedExactly ms →
    IsEscapedExactly (escaped_if special ms)
escaped_exactly true ms is h = (is, h)
escaped_exactly false ms is h = rw (plain_names (keys_of_members ms) is) h

mutual
  pub IsEscapedExactly-written : (v : Val) → IsEscapedExactly (written v)
  IsEscapedExactly-written null = tt
  IsEscapedExactly-written (boolean b) = tt
  IsEscapedExactly-written (int z) = tt
  IsEscapedExactly-written (text s) = tt
  IsEscapedExactly-written (date z) = tt
  IsEscapedExactly-written (bytes s) = tt
  IsEscapedExactly-written (list vs) = items_escaped_written vs
  IsEscapedExactly-written (object fs) =
      escaped_exactly (is_special (names_of fs)) (members_written fs) (ap is_special (keys_of_members-members_written fs)) (members_escaped_written fs)
  IsEscapedExactly-written (user name v) = (tt, (IsEscapedExactly-written v, tt))

  items_escaped_written : (vs : Vals) → ItemsAreEscapedExactly (items_written vs)
  items_escaped_written no_vals = tt
  items_escaped_written (val v vs) = (IsEscapedExactly-written v, items_escaped_written vs)

  members_escaped_written : (fs : Fields) → MembersAreEscapedExactly (members_written fs)
  members_escaped_written no_fields = tt
  members_escaped_written (field name v fs) = (IsEscapedExactly-written v, members_escaped_written fs)

-- ---- no float is written

not_float : (z : ℤ) → is_float (of_integer z) ≡ false
not_float (pos n) = refl
not_float (negsuc n) = refl

escaped_float : (special : Bool) (ms : Members) → members_have_float ms ≡ false → has_float (escaped_if special ms) ≡ false
escaped_float true ms h = or_from (members_have_float ms) false h refl
escaped_float false ms h = h

mutual
  pub has_float-written : (v : Val) → has_float (written v) ≡ false
  has_float-written null = refl
  has_float-written (boolean b) = refl
  has_float-written (int z) = not_float z
  has_float-written (text s) = refl
  has_float-written (date z) = or_from (is_float (of_integer z)) false (not_float z) refl
  has_float-written (bytes s) = refl
  has_float-written (list vs) = items_float_written vs
  has_float-written (object fs) = escaped_float (is_special (names_of fs)) (members_written fs) (members_float_written fs)
  has_float-written (user name v) = or_from (has_float (written v)) false (has_float-written v) refl

  items_float_written : (vs : Vals) → items_have_float (items_written vs) ≡ false
  items_float_written no_vals = refl
  items_float_written (val v vs) = or_from (has_float (written v)) (items_have_float (items_written vs)) (has_float-written v) (items_float_written vs)

  members_float_written : (fs : Fields) → members_have_float (members_written fs) ≡ false
  members_float_written no_fields = refl
  members_float_written (field name v fs) =
      or_from (has_float (written v)) (members_have_float (members_written fs)) (has_float-written v) (members_float_written fs)

-- ---- depth

escaped_depth : (special : Bool) (ms : Members) → json.depth (escaped_if special ms) ≤ json.members_depth ms + 2
escaped_depth true ms = omega arith
escaped_depth false ms = omega arith

mutual
  pub depth-written : (v : Val) → json.depth (written v) ≤ 2 * depth v + 1
  depth-written null = omega arith
  depth-written (boolean b) = omega arith
  depth-written (int z) = omega arith
  depth-written (text s) = omega arith
  depth-written (date z) = omega arith
  depth-written (bytes s) = omega arith
  depth-written (list vs) = omega (arith, items_depth-written vs)
  depth-written (object fs) = omega (arith, escaped_depth (is_special (names_of fs)) (members_written fs), members_depth-written fs)
  depth-written (user name v) = omega (arith, depth-written v)

  items_depth-written : (vs : Vals) → json.items_depth (items_written vs) ≤ 2 * vals_depth vs + 1
  items_depth-written no_vals = omega arith
  items_depth-written (val v vs) = omega (arith, depth-written v, items_depth-written vs)

  members_depth-written : (fs : Fields) → json.members_depth (members_written fs) ≤ 2 * fields_depth fs + 1
  members_depth-written no_fields = omega arith
  members_depth-written (field name v fs) = omega (arith, depth-written v, members_depth-written fs)
