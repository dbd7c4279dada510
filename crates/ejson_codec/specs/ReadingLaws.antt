-- Reading answers exactly the value that the tree reads as, where its depth is within the levels.
use Rattle.std.specs.Prelude.{◌≡◌, ℕ, zero, suc, ◌≤◌, ℤ, pos, neg_ℤ, int_le, ◌≤ℤ◌, true, false, length, nat_lt, nat_le, List, [], ◌∷◌, Option, Some}
use Rattle.std.specs.Prelude.{None, Result, Ok, Err, refl}
use Rattle.std.proofs.Common.{sym, ap, ◌∙◌, subst, arith, inl, inr}
use Rattle.std.proofs.lemmas.Bool.{cases_Bool, and_from, ltb-true, lt-ltb, leb-true, le-leb}
use Rattle.std.proofs.lemmas.Int.{ints}
use Rattle.serde_json.specs.Data.{Num, unsigned, negative, float, Data, Items, no_items, item, Members, no_members, member}
use Rattle.serde_json.specs.Data as json
use Rattle.value_model.specs.Val.{Val, null, boolean, int, text, date, list, object, user, vals_of, Entries, fields_of}
use Rattle.value_model.specs.Valid.{IsWhole, max_whole, IsUserName, max_user_name}
use Rattle.value_model.specs.TruthLaws.{both_true}
use Rattle.value_model.specs.Depth.{depth, vals_depth, fields_depth}
use Rattle.ejson_value.specs.Results.{made}
use Rattle.ejson_value.specs.ResultLaws.{made-ok}
use Rattle.ejson_codec.specs.Shape.{keys_of_members, shape_of, first_of}
use Rattle.ejson_codec.specs.Base64.{bytes_of}
use Rattle.ejson_codec.specs.Base64Laws.{bytes_of_some, bytes_of-base64}
use Rattle.ejson_codec.specs.Reads.{IsAccepted, IsDate, IsBinary, IsNamed, ByShape, Reads, ItemsRead, MembersRead, EscapeReads, UserReads}
use Rattle.ejson_codec.specs.Reading.{is_whole, whole_reading, number_reading, date_reading, bytes_reading, binary_reading, is_user_name}
use Rattle.ejson_codec.specs.Reading.{name_reading, user_made, below, list_made, object_made, with_item, with_field, by_shape, reading, items_reading}
use Rattle.ejson_codec.specs.Reading.{members_reading, escape_reading, user_reading}
use Rattle.ejson_codec.specs.declared.shape.Shape.{Shape}
use Rattle.ejson_codec.specs.declared.shape.Shape.TheVariants.{Plain, Date, Binary, Escape, User, Unsupported}
use Rattle.ejson_codec.specs.declared.fault.EjsonFault.{EjsonFault}

-- ---- numbers

int_le_true : (a b : ℤ) → int_le a b ≡ true → a ≤ℤ b
int_le_true a b h = grind (arith, ints)

int_le_from : (a b : ℤ) → a ≤ℤ b → int_le a b ≡ true
int_le_from a b h = grind (arith, ints)

pub is_whole_true : (z : ℤ) → is_whole z ≡ true → IsWhole z
is_whole_true z h =
    let parts = both_true (int_le (neg_ℤ (pos max_whole)) z) (int_le z (pos max_whole)) h in
    record { low = int_le_true _ _ parts.0; high = int_le_true _ _ parts.1 }

pub is_whole_from : (z : ℤ) → IsWhole z → is_whole z ≡ true
is_whole_from z h = and_from (int_le (neg_ℤ (pos max_whole)) z) (int_le z (pos max_whole)) (int_le_from _ _ h.low) (int_le_from _ _ h.high)

whole_ok : (z y : ℤ) → whole_reading (Some z) ≡ Ok y → (z ≡ y) × IsWhole y
whole_ok z y h = elim (cases_Bool (is_whole z)) [
  | inl fits ↦
      let same : Ok z ≡ Ok y = rw fits at h in
      let e : z ≡ y = cc same in
      (e, rw e at (is_whole_true z fits))
  | inr out ↦ cc (rw out at h)
]

number_ok : (n : Num) (z : ℤ) → number_reading n ≡ Ok z → IsAccepted n z
number_ok (unsigned n) z h = let p = whole_ok (pos n) z h in (sym p.0, p.1)
number_ok (negative y) z h = let p = whole_ok y z h in (sym p.0, p.1)
number_ok (float x) z h = cc h

whole_read : (z : ℤ) → IsWhole z → whole_reading (Some z) ≡ Ok z
whole_read z h = rw (is_whole_from z h) refl

number_read : (n : Num) (z : ℤ) → IsAccepted n z → number_reading n ≡ Ok z
number_read (unsigned n) z h = ap (λ (y : ℤ). whole_reading (Some y)) (sym h.0) ∙ whole_read z h.1
number_read (negative y) z h = ap (λ (x : ℤ). whole_reading (Some x)) (sym h.0) ∙ whole_read z h.1
number_read (float x) z h = absurd h

-- ---- answers made of answers

below_ok : {A : Type 0} (levels : ℕ) (f : ℕ → Result A EjsonFault) (a : A) → below levels f ≡ Ok a → (left : ℕ) × (levels ≡ suc left) × (f left ≡ Ok a)
below_ok zero f a h = absurd (cc h)
below_ok (suc levels) f a h = (levels, refl, h)

pub with_item_ok : (r : Result Val EjsonFault) (rest : Result (List Val) EjsonFault) (vs : List Val) → with_item r rest ≡ Ok vs
    → (v : Val) × (more : List Val) × (r ≡ Ok v) × (rest ≡ Ok more) × (vs ≡ v ∷ more)
with_item_ok (Ok v) (Ok more) vs h = (v, more, refl, refl, cc h)
with_item_ok (Ok v) (Err e) vs h = absurd (cc h)
with_item_ok (Err e) rest vs h = absurd (cc h)

pub with_field_ok : (key : List ℕ) (r : Result Val EjsonFault) (rest : Result Entries EjsonFault) (es : Entries) → with_field key r rest ≡ Ok es
    → (v : Val) × (more : Entries) × (r ≡ Ok v) × (rest ≡ Ok more) × (es ≡ (key, v) ∷ more)
with_field_ok key (Ok v) (Ok more) es h = (v, more, refl, refl, cc h)
with_field_ok key (Ok v) (Err e) es h = absurd (cc h)
with_field_ok key (Err e) rest es h = absurd (cc h)

-- ---- dates and bytes

date_ok : (d : Data) (v : Val) → date_reading d ≡ Ok v → IsDate d v
date_ok (json.number n) v h =
    let p = made-ok date (number_reading n) v h in
    (p.0, number_ok n p.0 p.1, sym p.2)
date_ok json.null v h = cc h
date_ok (json.boolean b) v h = cc h
date_ok (json.string s) v h = cc h
date_ok (json.array ds) v h = cc h
date_ok (json.object ms) v h = cc h

date_read : (d : Data) (v : Val) → IsDate d v → date_reading d ≡ Ok v
date_read (json.number n) v h = ap (made date) (number_read n h.0 h.1) ∙ ap Ok (sym h.2)
date_read json.null v h = absurd h
date_read (json.boolean b) v h = absurd h
date_read (json.string s) v h = absurd h
date_read (json.array ds) v h = absurd h
date_read (json.object ms) v h = absurd h

bytes_ok : (s : List ℕ) (o : Option (List ℕ)) (v : Val) → bytes_of s ≡ o → bytes_reading o ≡ Ok v → IsBinary (json.string s) v
bytes_ok s None v is h = absurd (cc h)
bytes_ok s (Some b) v is h = let p = bytes_of_some s b is in (b, p.0, p.1, cc h)

binary_ok : (d : Data) (v : Val) → binary_reading d ≡ Ok v → IsBinary d v
binary_ok (json.string s) v h = bytes_ok s (bytes_of s) v refl h
binary_ok json.null v h = cc h
binary_ok (json.boolean b) v h = cc h
binary_ok (json.number n) v h = cc h
binary_ok (json.array ds) v h = cc h
binary_ok (json.object ms) v h = cc h

binary_read : (d : Data) (v : Val) → IsBinary d v → binary_reading d ≡ Ok v
binary_read (json.string s) v h =
    let found : bytes_of s ≡ Some h.0 = ap bytes_of h.1 ∙ bytes_of-base64 h.0 h.2 in
    ap bytes_reading found ∙ ap Ok (sym h.3)
binary_read json.null v h = absurd h
binary_read (json.boolean b) v h = absurd h
binary_read (json.number n) v h = absurd h
binary_read (json.array ds) v h = absurd h
binary_read (json.object ms) v h = absurd h

-- ---- names of user types

is_user_name_true : (s : List ℕ) → is_user_name s ≡ true → IsUserName s
is_user_name_true s h =
    let parts = both_true (nat_lt 0 (length s)) (nat_le (length s) max_user_name) h in
    record { some = ltb-true 0 (length s) parts.0; short = leb-true (length s) max_user_name parts.1 }

pub is_user_name_from : (s : List ℕ) → IsUserName s → is_user_name s ≡ true
is_user_name_from s h = and_from (nat_lt 0 (length s)) (nat_le (length s) max_user_name) (lt-ltb 0 (length s) h.some) (le-leb (length s) max_user_name h.short)

pub is_user_name_not : (s : List ℕ) → (IsUserName s → ⊥) → is_user_name s ≡ false
is_user_name_not s h = elim (cases_Bool (is_user_name s)) [ inl is ↦ absurd (h (is_user_name_true s is)) | inr out ↦ out ]

name_ok : (d : Data) (name : List ℕ) → name_reading d ≡ Ok name → IsNamed d name
name_ok (json.string s) name h = elim (cases_Bool (is_user_name s)) [
  | inl fits ↦
      let same : Ok s ≡ Ok name = rw fits at h in
      let e : s ≡ name = cc same in
      (sym e, rw e at (is_user_name_true s fits))
  | inr out ↦ cc (rw out at h)
]
name_ok json.null name h = cc h
name_ok (json.boolean b) name h = cc h
name_ok (json.number n) name h = cc h
name_ok (json.array ds) name h = cc h
name_ok (json.object ms) name h = cc h

name_read : (d : Data) (name : List ℕ) → IsNamed d name → name_reading d ≡ Ok name
name_read (json.string s) name h =
    let fits : is_user_name s ≡ true = is_user_name_from s (subst IsUserName h.0 h.1) in
    rw fits (ap Ok (sym h.0))
name_read json.null name h = absurd h
name_read (json.boolean b) name h = absurd h
name_read (json.number n) name h = absurd h
name_read (json.array ds) name h = absurd h
name_read (json.object ms) name h = absurd h

user_made_ok : (named : Result (List ℕ) EjsonFault) (inner : Result Val EjsonFault) (v : Val) → user_made named inner ≡ Ok v
    → (name : List ℕ) × (w : Val) × (named ≡ Ok name) × (inner ≡ Ok w) × (v ≡ user name w)
user_made_ok (Ok name) (Ok w) v h = (name, w, refl, refl, cc h)
user_made_ok (Ok name) (Err e) v h = absurd (cc h)
user_made_ok (Err e) inner v h = absurd (cc h)

-- ---- by what the object stands for

shape_ok : (shape : Shape) (a b c d e : Result Val EjsonFault) (P Q R S T : Type 0) (v : Val) (levels : ℕ)
    → (a ≡ Ok v → P × (depth v ≤ levels)) → (b ≡ Ok v → Q × (depth v ≤ levels)) → (c ≡ Ok v → R × (depth v ≤ levels)) →
    (d ≡ Ok v → S × (depth v ≤ levels)) → (e ≡ Ok v → T × (depth v ≤ levels))
    → by_shape shape a b c d e ≡ Ok v → ByShape shape P Q R S T × (depth v ≤ levels)
shape_ok Plain a b c d e P Q R S T v levels p q r s t h = p h
shape_ok Date a b c d e P Q R S T v levels p q r s t h = q h
shape_ok Binary a b c d e P Q R S T v levels p q r s t h = r h
shape_ok Escape a b c d e P Q R S T v levels p q r s t h = s h
shape_ok User a b c d e P Q R S T v levels p q r s t h = t h
shape_ok Unsupported a b c d e P Q R S T v levels p q r s t h = cc h

shape_read : (shape : Shape) (a b c d e : Result Val EjsonFault) (P Q R S T : Type 0) (v : Val)
    → (P → a ≡ Ok v) → (Q → b ≡ Ok v) → (R → c ≡ Ok v) → (S → d ≡ Ok v) → (T → e ≡ Ok v)
    → ByShape shape P Q R S T → by_shape shape a b c d e ≡ Ok v
shape_read Plain a b c d e P Q R S T v p q r s t h = p h
shape_read Date a b c d e P Q R S T v p q r s t h = q h
shape_read Binary a b c d e P Q R S T v p q r s t h = r h
shape_read Escape a b c d e P Q R S T v p q r s t h = s h
shape_read User a b c d e P Q R S T v p q r s t h = t h
shape_read Unsupported a b c d e P Q R S T v p q r s t h = absurd h

date_flat : (d : Data) (v : Val) (levels : ℕ) → IsDate d v → depth v ≤ levels
date_flat (json.number n) v levels h = rw h.2 (omega arith)
date_flat json.null v levels h = absurd h
date_flat (json.boolean b) v levels h = absurd h
date_flat (json.string s) v levels h = absurd h
date_flat (json.array ds) v levels h = absurd h
date_flat (json.object ms) v levels h = absurd h

binary_flat : (d : Data) (v : Val) (levels : ℕ) → IsBinary d v → depth v ≤ levels
binary_flat (json.string s) v levels h = rw h.3 (omega arith)
binary_flat json.null v levels h = absurd h
binary_flat (json.boolean b) v levels h = absurd h
binary_flat (json.number n) v levels h = absurd h
binary_flat (json.array ds) v levels h = absurd h
binary_flat (json.object ms) v levels h = absurd h

list_deep : (vs : List Val) (v : Val) (left levels : ℕ) → levels ≡ suc left → vals_depth (vals_of vs) ≤ left → list (vals_of vs) ≡ v → depth v ≤ levels
list_deep vs v left levels e within is = rw (← is, e) (omega arith)

object_deep : (es : Entries) (v : Val) (left levels : ℕ) → levels ≡ suc left → fields_depth (fields_of es) ≤ left → object (fields_of es) ≡ v → depth v ≤ levels
object_deep es v left levels e within is = rw (← is, e) (omega arith)

user_deep : (name : List ℕ) (w v : Val) (left levels : ℕ) → levels ≡ suc left → depth w ≤ left → v ≡ user name w → depth v ≤ levels
user_deep name w v left levels e within is = rw (is, e) (omega arith)

flat_list : (vs : List Val) (v : Val) → v ≡ list (vals_of vs) → depth v ≤ 0 → ⊥
flat_list vs v is fits = let within = rw is at fits in omega (arith, within)

flat_object : (es : Entries) (v : Val) → v ≡ object (fields_of es) → depth v ≤ 0 → ⊥
flat_object es v is fits = let within = rw is at fits in omega (arith, within)

flat_user : (name : List ℕ) (w v : Val) → v ≡ user name w → depth v ≤ 0 → ⊥
flat_user name w v is fits = let within = rw is at fits in omega (arith, within)

inside_list : (vs : List Val) (v : Val) (levels : ℕ) → v ≡ list (vals_of vs) → depth v ≤ suc levels → vals_depth (vals_of vs) ≤ levels
inside_list vs v levels is fits = let within = rw is at fits in omega (arith, within)

inside_object : (es : Entries) (v : Val) (levels : ℕ) → v ≡ object (fields_of es) → depth v ≤ suc levels → fields_depth (fields_of es) ≤ levels
inside_object es v levels is fits = let within = rw is at fits in omega (arith, within)

inside_user : (name : List ℕ) (w v : Val) (levels : ℕ) → v ≡ user name w → depth v ≤ suc levels → depth w ≤ levels
inside_user name w v levels is fits = let within = rw is at fits in omega (arith, within)

-- what was answered is what the tree reads as
mutual
  pub reads_ok : (levels : ℕ) (d : Data) (v : Val) → reading levels d ≡ Ok v → Reads d v × (depth v ≤ levels)
  reads_ok levels json.null v h = let e : v ≡ null = cc h in (e, rw e (omega arith))
  reads_ok levels (json.boolean b) v h = let e : v ≡ boolean b = cc h in (e, rw e (omega arith))
  reads_ok levels (json.number n) v h =
      let p = made-ok int (number_reading n) v h in
      ((p.0, number_ok n p.0 p.1, sym p.2), rw (← p.2) (omega arith))
  reads_ok levels (json.string s) v h = let e : v ≡ text s = cc h in (e, rw e (omega arith))
  reads_ok levels (json.array ds) v h =
      let p = made-ok (λ (vs : List Val). list (vals_of vs)) (below levels (λ left. items_reading left ds)) v h in
      let q = below_ok levels (λ left. items_reading left ds) p.0 p.1 in
      let inside = items_ok q.0 ds p.0 q.2 in
      ((p.0, inside.0, sym p.2), list_deep p.0 v q.0 levels q.1 inside.1 p.2)
  reads_ok levels (json.object ms) v h =
      shape_ok (shape_of (keys_of_members ms)) (object_made (below levels (λ left. members_reading left ms))) (date_reading (first_of ms))
      (binary_reading (first_of ms)) (escape_reading levels ms) (user_reading levels ms)
      ((es : Entries) × MembersRead ms es × (v ≡ object (fields_of es))) (IsDate (first_of ms) v) (IsBinary (first_of ms) v) (EscapeReads ms v)
      (UserReads ms v) v levels
      (λ is.
      let p = made-ok (λ (es : Entries). object (fields_of es)) (below levels (λ left. members_reading left ms)) v is in
      let q = below_ok levels (λ left. members_reading left ms) p.0 p.1 in
      let inside = members_ok q.0 ms p.0 q.2 in
      ((p.0, inside.0, sym p.2), object_deep p.0 v q.0 levels q.1 inside.1 p.2))
      (λ is. let r = date_ok (first_of ms) v is in (r, date_flat (first_of ms) v levels r))
      (λ is. let r = binary_ok (first_of ms) v is in (r, binary_flat (first_of ms) v levels r))
      (λ is. escape_ok levels ms v is)
      (λ is. user_ok levels ms v is)
      h

  items_ok : (levels : ℕ) (ds : Items) (vs : List Val) → items_reading levels ds ≡ Ok vs → ItemsRead ds vs × (vals_depth (vals_of vs) ≤ levels)
  items_ok levels no_items vs h = let e : vs ≡ [] = cc h in (e, rw e (omega arith))
  items_ok levels (item d ds) vs h =
      let p = with_item_ok (reading levels d) (items_reading levels ds) vs h in
      let here = reads_ok levels d p.0 p.2 in
      let rest = items_ok levels ds p.1 p.3 in
      ((p.0, p.1, here.0, rest.0, p.4), rw p.4 (omega (arith, here.1, rest.1)))

  members_ok : (levels : ℕ) (ms : Members) (es : Entries) → members_reading levels ms ≡ Ok es → MembersRead ms es × (fields_depth (fields_of es) ≤ levels)
  members_ok levels no_members es h = let e : es ≡ [] = cc h in (e, rw e (omega arith))
  members_ok levels (member key d ms) es h =
      let p = with_field_ok key (reading levels d) (members_reading levels ms) es h in
      let here = reads_ok levels d p.0 p.2 in
      let rest = members_ok levels ms p.1 p.3 in
      ((p.0, p.1, here.0, rest.0, p.4), rw p.4 (omega (arith, here.1, rest.1)))

  escape_ok : (levels : ℕ) (ms : Members) (v : Val) → escape_reading levels ms ≡ Ok v → EscapeReads ms v × (depth v ≤ levels)
  escape_ok levels no_members v h = cc h
  escape_ok levels (member key json.null ms) v h = cc h
  escape_ok levels (member key (json.boolean b) ms) v h = cc h
  escape_ok levels (member key (json.number n) ms) v h = cc h
  escape_ok levels (member key (json.string s) ms) v h = cc h
  escape_ok levels (member key (json.array ds) ms) v h = cc h
  escape_ok levels (member key (json.object inner) ms) v h =
      let p = made-ok (λ (es : Entries). object (fields_of es)) (below levels (λ left. members_reading left inner)) v h in
      let q = below_ok levels (λ left. members_reading left inner) p.0 p.1 in
      let inside = members_ok q.0 inner p.0 q.2 in
      ((p.0, inside.0, sym p.2), object_deep p.0 v q.0 levels q.1 inside.1 p.2)

  user_ok : (levels : ℕ) (ms : Members) (v : Val) → user_reading levels ms ≡ Ok v → UserReads ms v × (depth v ≤ levels)
  user_ok levels no_members v h = cc h
  user_ok levels (member key named no_members) v h = cc h
  user_ok levels (member key named (member other d ms)) v h =
      let q = below_ok levels (λ left. user_made (name_reading named) (reading left d)) v h in
      let p = user_made_ok (name_reading named) (reading q.0 d) v q.2 in
      let inside = reads_ok q.0 d p.1 p.3 in
      ((p.0, p.1, name_ok named p.0 p.2, inside.0, p.4), user_deep p.0 p.1 v q.0 levels q.1 inside.1 p.4)

plain_only : (levels : ℕ) (ms : Members) (v : Val)
    → ((left : ℕ) (es : Entries) → MembersRead ms es → fields_depth (fields_of es) ≤ left → members_reading left ms ≡ Ok es)
    → (es : Entries) × MembersRead ms es × (v ≡ object (fields_of es)) → depth v ≤ levels
    → object_made (below levels (λ left. members_reading left ms)) ≡ Ok v
plain_only zero ms v members h fits = absurd (flat_object h.0 v h.2 fits)
plain_only (suc levels) ms v members h fits =
    ap object_made (members levels h.0 h.1 (inside_object h.0 v levels h.2 fits)) ∙ ap Ok (sym h.2)

-- each value that the tree reads as is answered
mutual
  pub reads_only : (levels : ℕ) (d : Data) (v : Val) → Reads d v → depth v ≤ levels → reading levels d ≡ Ok v
  reads_only levels json.null v h fits = ap Ok (sym h)
  reads_only levels (json.boolean b) v h fits = ap Ok (sym h)
  reads_only levels (json.number n) v h fits = ap (made int) (number_read n h.0 h.1) ∙ ap Ok (sym h.2)
  reads_only levels (json.string s) v h fits = ap Ok (sym h)
  reads_only zero (json.array ds) v h fits = absurd (flat_list h.0 v h.2 fits)
  reads_only (suc levels) (json.array ds) v h fits =
      ap list_made (items_only levels ds h.0 h.1 (inside_list h.0 v levels h.2 fits)) ∙ ap Ok (sym h.2)
  reads_only levels (json.object ms) v h fits =
      shape_read (shape_of (keys_of_members ms)) (object_made (below levels (λ left. members_reading left ms))) (date_reading (first_of ms))
      (binary_reading (first_of ms)) (escape_reading levels ms) (user_reading levels ms)
      ((es : Entries) × MembersRead ms es × (v ≡ object (fields_of es))) (IsDate (first_of ms) v) (IsBinary (first_of ms) v) (EscapeReads ms v)
      (UserReads ms v) v
      (λ is. plain_only levels ms v (λ left es r f. members_only left ms es r f) is fits)
      (λ is. date_read (first_of ms) v is)
      (λ is. binary_read (first_of ms) v is)
      (λ is. escape_only levels ms v is fits)
      (λ is. user_only levels ms v is fits)
      h

  items_only : (levels : ℕ) (ds : Items) (vs : List Val) → ItemsRead ds vs → vals_depth (vals_of vs) ≤ levels → items_reading levels ds ≡ Ok vs
  items_only levels no_items vs h fits = ap Ok (sym h)
  items_only levels (item d ds) vs h fits =
      let within = rw h.4 at fits in
      let here = reads_only levels d h.0 h.2 (omega (arith, within)) in
      let rest = items_only levels ds h.1 h.3 (omega (arith, within)) in
      rw (here, rest) (ap Ok (sym h.4))

  members_only : (levels : ℕ) (ms : Members) (es : Entries) → MembersRead ms es → fields_depth (fields_of es) ≤ levels → members_reading levels ms ≡ Ok es
  members_only levels no_members es h fits = ap Ok (sym h)
  members_only levels (member key d ms) es h fits =
      let within = rw h.4 at fits in
      let here = reads_only levels d h.0 h.2 (omega (arith, within)) in
      let rest = members_only levels ms h.1 h.3 (omega (arith, within)) in
      rw (here, rest) (ap Ok (sym h.4))

  escape_only : (levels : ℕ) (ms : Members) (v : Val) → EscapeReads ms v → depth v ≤ levels → escape_reading levels ms ≡ Ok v
  escape_only levels no_members v h fits = absurd h
  escape_only levels (member key json.null ms) v h fits = absurd h
  escape_only levels (member key (json.boolean b) ms) v h fits = absurd h
  escape_only levels (member key (json.number n) ms) v h fits = absurd h
  escape_only levels (member key (json.string s) ms) v h fits = absurd h
  escape_only levels (member key (json.array ds) ms) v h fits = absurd h
  escape_only zero (member key (json.object inner) ms) v h fits = absurd (flat_object h.0 v h.2 fits)
  escape_only (suc levels) (member key (json.object inner) ms) v h fits =
      ap object_made (members_only levels inner h.0 h.1 (inside_object h.0 v levels h.2 fits)) ∙ ap Ok (sym h.2)

  user_only : (levels : ℕ) (ms : Members) (v : Val) → UserReads ms v → depth v ≤ levels → user_reading levels ms ≡ Ok v
  user_only levels no_members v h fits = absurd h
  user_only levels (member key named no_members) v h fits = absurd h
  user_only zero (member key named (member other d ms)) v h fits = absurd (flat_user h.0 h.1 v h.4 fits)
  user_only (suc levels) (member key named (member other d ms)) v h fits =
      ap (λ (r : Result (List ℕ) EjsonFault). user_made r (reading levels d)) (name_read named h.0 h.2)
      ∙ ap (user_made (Ok h.0)) (reads_only levels d h.1 h.3 (inside_user h.0 h.1 v levels h.4 fits)) ∙ ap Ok (sym h.4)
