-- A value's size is the length of its text.
use Rattle.std.specs.Prelude.{◌≡◌, ℕ, suc, ◌+◌, ◌*◌, ◌/◌, ◌%◌, ◌<◌, max, ℤ, pos, negsuc, Bool, true, false, ◌==◌, nat_lt, List, [], ◌∷◌, ◌++◌, All}
use Rattle.std.specs.Prelude.{length, slice_index, sum_by, replicate, codes, refl}
use Rattle.std.proofs.Common.{sym, ◌∙◌, arith, cond, inl, inr, zero}
use Rattle.std.proofs.lemmas.Bool.{cases_Bool, eqb-true, cases_eq, ne_eqb}
use Rattle.std.proofs.lemmas.List.{length-append}
use Rattle.std.proofs.lemmas.List.Concat.{length-flat_map}
use Rattle.std.proofs.lemmas.List.Sums.{sum_by-append, AllPass-from_list_all}
use Rattle.std.specs.List.{list_all}
use Rattle.std.specs.Fmt.{signed_decimal}
use Rattle.json.specs.Print.{escape_byte, escape, quoted}
use Rattle.base64.specs.Engines.{standard}
use Rattle.base64.specs.Rfc4648.{encode_group, encode_symbols, padding_len}
use Rattle.serde_json.specs.Data.{Data, Items, no_items, item, Members, no_members, member}
use Rattle.serde_json.specs.Data as json
use Rattle.serde_json.specs.Find.{of_integer}
use Rattle.serde_json.specs.Written.{number_text, comma_if, compact_text, items_text, members_text}
use Rattle.value_model.specs.Val.{Val, null, boolean, int, text, date, bytes, list, object, user, Vals, no_vals, val, Fields, no_fields, field}
use Rattle.value_model.specs.Valid.{IsValue, AreValues, HaveValues}
use Rattle.value_model.specs.Size.{escape_size, text_size, base64_size, names_of, is_special, size, vals_size, fields_size}
use Rattle.ejson_codec.specs.Base64.{base64}
use Rattle.ejson_codec.specs.Base64Laws.{length-base64}
use Rattle.ejson_codec.specs.Written.{alone, escaped_if, user_object, written, items_written, members_written}

-- ---- numbers

number_size : (z : ℤ) → length (number_text (of_integer z)) ≡ length (signed_decimal z)
number_size (pos n) = refl
number_size (negsuc n) = refl

-- ---- texts

other_byte : (x : ℕ) → (x == 34) ≡ false → (x == 92) ≡ false → (x == 8) ≡ false → (x == 9) ≡ false → (x == 10) ≡ false → (x == 12) ≡ false → (x == 13) ≡ false
    → length (escape_byte x) ≡ escape_size x
unfolding escape_byte
other_byte x a b c d e f g = elim (cases_Bool (nat_lt x 32)) [
  | inl small ↦ rw (a, b, c, d, e, f, g, small) refl
  | inr big ↦ rw (a, b, c, d, e, f, g, big) refl
]

byte_size : (x : ℕ) → length (escape_byte x) ≡ escape_size x
unfolding escape_byte
byte_size x = elim (cases_eq x 34) [
  | inl e ↦ rw e refl
  | inr n34 ↦ elim (cases_eq x 92) [
    | inl e ↦ rw e refl
    | inr n92 ↦ elim (cases_eq x 8) [
      | inl e ↦ rw e refl
      | inr n8 ↦ elim (cases_eq x 9) [
        | inl e ↦ rw e refl
        | inr n9 ↦ elim (cases_eq x 10) [
          | inl e ↦ rw e refl
          | inr n10 ↦ elim (cases_eq x 12) [
            | inl e ↦ rw e refl
            | inr n12 ↦ elim (cases_eq x 13) [
              | inl e ↦ rw e refl
              | inr n13 ↦ other_byte x (ne_eqb x 34 n34) (ne_eqb x 92 n92) (ne_eqb x 8 n8) (ne_eqb x 9 n9) (ne_eqb x 10 n10) (ne_eqb x 12 n12) (ne_eqb x 13 n13)
            ]
          ]
        ]
      ]
    ]
  ]
]

sum_by-same : (f g : ℕ → ℕ) → ((x : ℕ) → f x ≡ g x) → (s : List ℕ) → sum_by f s ≡ sum_by g s
sum_by-same f g same [] = refl
sum_by-same f g same (x ∷ xs) = omega (arith, sum_by-append f (x ∷ []) xs, sum_by-append g (x ∷ []) xs, same x, sum_by-same f g same xs)

escape_length : (s : List ℕ) → length (escape s) ≡ sum_by escape_size s
escape_length s = length-flat_map escape_byte s ∙ sum_by-same (λ x. length (escape_byte x)) escape_size byte_size s

pub quoted_size : (s : List ℕ) → length (quoted s) ≡ text_size s
quoted_size s = omega (arith, length-append (escape s) (34 ∷ []), escape_length s)

-- ---- binary data

abbrev letters : List ℕ
letters = standard.encode_table

table_plain : list_all (λ b. escape_size b == 1) letters ≡ true
table_plain = refl

symbol_plain : (i : ℕ) → i < 64 → escape_size (slice_index letters i) ≡ 1
symbol_plain i within = eqb-true _ _ (AllPass-from_list_all (λ b. escape_size b == 1) letters table_plain i 0 within)

abbrev pads : ℕ → List ℕ
pads n = replicate n 61

pads_plain : (n : ℕ) → sum_by escape_size (pads n) ≡ length (pads n)
pads_plain zero = refl
pads_plain (suc n) = omega (arith, sum_by-append escape_size (61 ∷ []) (pads n), pads_plain n)

later_bytes : (a : ℕ) (s : List ℕ) → All (λ x. x < 256) (a ∷ s) → All (λ x. x < 256) s
later_bytes a s h k d lt = h (suc k) d (omega arith)

-- no letter of base64 is escaped
symbols_plain : (s : List ℕ) → All (λ x. x < 256) s → sum_by escape_size (encode_symbols letters s) ≡ length (encode_symbols letters s)
unfolding encode_symbols
symbols_plain [] h = refl
symbols_plain (a ∷ []) h =
    let ha : a < 256 = h 0 0 (omega arith) in
    omega (arith, symbol_plain (a / 4) (omega arith), symbol_plain (a % 4 * 16) (omega arith))
symbols_plain (a ∷ b ∷ []) h =
    let ha : a < 256 = h 0 0 (omega arith) in
    let hb : b < 256 = h 1 0 (omega arith) in
    omega (arith, symbol_plain (a / 4) (omega arith), symbol_plain (a % 4 * 16 + b / 16) (omega arith), symbol_plain (b % 16 * 4) (omega arith))
symbols_plain (a ∷ b ∷ c ∷ rest) h =
    let ha : a < 256 = h 0 0 (omega arith) in
    let hb : b < 256 = h 1 0 (omega arith) in
    let hc : c < 256 = h 2 0 (omega arith) in
    let group : sum_by escape_size (encode_group letters a b c) ≡ 4 =
    omega (
      arith,
      symbol_plain (a / 4) (omega arith),
      symbol_plain (a % 4 * 16 + b / 16) (omega arith),
      symbol_plain (b % 16 * 4 + c / 64) (omega arith),
      symbol_plain (c % 64) (omega arith),
    ) in
    let more = symbols_plain rest (later_bytes c rest (later_bytes b (c ∷ rest) (later_bytes a (b ∷ c ∷ rest) h))) in
    omega (
      arith,
      sum_by-append escape_size (encode_group letters a b c) (encode_symbols letters rest),
      length-append (encode_group letters a b c) (encode_symbols letters rest),
      group,
      more,
    )

base64_plain : (s : List ℕ) → All (λ x. x < 256) s → sum_by escape_size (base64 s) ≡ length (base64 s)
unfolding base64
base64_plain s h =
    let n : ℕ = padding_len (length s) in
    omega (
      arith,
      sum_by-append escape_size (encode_symbols letters s) (pads n),
      length-append (encode_symbols letters s) (pads n),
      symbols_plain s h,
      pads_plain n,
    )

base64_text_size : (s : List ℕ) → All (λ x. x < 256) s → length (quoted (base64 s)) ≡ 2 + base64_size (length s)
base64_text_size s h = quoted_size (base64 s) ∙ omega (arith, base64_plain s h, length-base64 s)

-- ---- objects of one member, and those of values of user types

alone_size : (key : List ℕ) (d : Data) → length (compact_text (alone key d)) ≡ 3 + text_size key + length (compact_text d)
alone_size key d =
    let value = length-append (compact_text d) (125 ∷ []) in
    let whole = length-append (quoted key) (58 ∷ (compact_text d ++ 125 ∷ [])) in
    omega (arith, value, whole, quoted_size key)

user_size : (name : List ℕ) (d : Data) → length (compact_text (user_object name d)) ≡ 20 + text_size name + length (compact_text d)
user_size name d =
    let behind = members_text true (member (codes "$value") d no_members) in
    let value = length-append (compact_text d) (125 ∷ []) in
    let second = length-append (quoted (codes "$value")) (58 ∷ (compact_text d ++ 125 ∷ [])) in
    let named = length-append (quoted name) behind in
    let whole = length-append (quoted (codes "$type")) (58 ∷ (quoted name ++ behind)) in
    omega (arith, value, second, named, whole, quoted_size (codes "$type"), quoted_size (codes "$value"), quoted_size name)

escaped_size : (special : Bool) (ms : Members) (n : ℕ) → length (compact_text (json.object ms)) ≡ n →
    length (compact_text (escaped_if special ms)) ≡ cond special 12 0 + n
escaped_size true ms n is = alone_size (codes "$escape") (json.object ms) ∙ omega (arith, is)
escaped_size false ms n is = is ∙ omega arith

comma_later : (xs : List ℕ) → length (comma_if true ++ xs) ≡ suc (length xs)
comma_later xs = refl

mutual
  pub size-written : (v : Val) → IsValue v → size v ≡ length (compact_text (written v))
  size-written null h = refl
  size-written (boolean true) h = refl
  size-written (boolean false) h = refl
  size-written (int z) h = sym (number_size z)
  size-written (text s) h = sym (quoted_size s)
  size-written (date z) h = sym (alone_size (codes "$date") (json.number (of_integer z)) ∙ omega (arith, number_size z))
  size-written (bytes s) h = sym (alone_size (codes "$binary") (json.string (base64 s)) ∙ omega (arith, base64_text_size s h))
  size-written (list no_vals) h = refl
  size-written (list (val v vs)) h =
      let first = length-append (compact_text (written v)) (items_text true (items_written vs)) in
      omega (arith, first, size-written v h.0, vals_size-written vs h.1)
  size-written (object fs) h = sym (escaped_size (is_special (names_of fs)) (members_written fs) (max 2 (1 + fields_size fs)) (object_size fs h.1))
  size-written (user name v) h = sym (user_size name (written v) ∙ omega (arith, size-written v h.1))

  vals_size-written : (vs : Vals) → AreValues vs → length (items_text true (items_written vs)) ≡ suc (vals_size vs)
  vals_size-written no_vals h = refl
  vals_size-written (val v vs) h =
      let first = length-append (compact_text (written v)) (items_text true (items_written vs)) in
      omega (arith, first, size-written v h.0, vals_size-written vs h.1)

  object_size : (fs : Fields) → HaveValues fs → length (compact_text (json.object (members_written fs))) ≡ max 2 (1 + fields_size fs)
  object_size no_fields h = refl
  object_size (field name v fs) h =
      let value = length-append (compact_text (written v)) (members_text true (members_written fs)) in
      let whole = length-append (quoted name) (58 ∷ (compact_text (written v) ++ members_text true (members_written fs))) in
      omega (arith, value, whole, quoted_size name, size-written v h.0, fields_size-written fs h.1)

  fields_size-written : (fs : Fields) → HaveValues fs → length (members_text true (members_written fs)) ≡ suc (fields_size fs)
  fields_size-written no_fields h = refl
  fields_size-written (field name v fs) h =
      let value = length-append (compact_text (written v)) (members_text true (members_written fs)) in
      let whole = length-append (quoted name) (58 ∷ (compact_text (written v) ++ members_text true (members_written fs))) in
      omega (arith, value, whole, quoted_size name, size-written v h.0, fields_size-written fs h.1)
