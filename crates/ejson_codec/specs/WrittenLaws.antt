-- A value's tree reads as the value, and is the only tree that does and that has `$escape` exactly where it must be.
use Rattle.std.specs.Prelude.{◌≡◌, ℕ, ℤ, pos, negsuc, ◌<ℤ◌, Bool, true, false, ◌&&◌, ◌||◌, List, [], ◌∷◌, codes, refl}
use Rattle.std.proofs.Common.{sym, ap, ap₂, ◌∙◌, subst, arith}
use Rattle.std.proofs.lemmas.Bool.{or_parts}
use Rattle.std.proofs.lemmas.Slice.Eq.{bytes_eq-Decides}
use Rattle.std.proofs.lemmas.Int.{ints}
use Rattle.serde_json.specs.Data.{Num, unsigned, negative, float, Data, Items, no_items, item, Members, no_members, member}
use Rattle.serde_json.specs.Data as json
use Rattle.serde_json.specs.Find.{of_integer}
use Rattle.value_model.specs.Val.{Val, null, boolean, int, text, date, bytes, list, object, user, Vals, no_vals, val, Fields, no_fields, field}
use Rattle.value_model.specs.Val.{vals_of, list_of, Entries, fields_of, entries_of}
use Rattle.value_model.specs.ValLaws.{vals_of-list_of, fields_of-entries_of}
use Rattle.value_model.specs.TruthLaws.{both_true}
use Rattle.value_model.specs.Valid.{IsWhole, IsValue, AreValues, HaveValues}
use Rattle.value_model.specs.Size.{is_name, names_of, is_special}
use Rattle.ejson_codec.specs.Shape.{keys_of_members, shape_of, shape_of_one, shape_of_two, first_of}
use Rattle.ejson_codec.specs.Reads.{IsAccepted, IsDate, IsBinary, IsNamed, ByShape, Reads, ItemsRead, MembersRead, EscapeReads, UserReads}
use Rattle.ejson_codec.specs.Written.{alone, escaped_if, user_object, written, items_written, members_written}
use Rattle.ejson_codec.specs.Trees.{IsHeldOnce, HoldsNumbersOnce, ItemsHoldNumbersOnce, MembersHoldNumbersOnce, IsEscapedExactly}
use Rattle.ejson_codec.specs.Trees.{ItemsAreEscapedExactly, MembersAreEscapedExactly, EscapesSpecial}
use Rattle.ejson_codec.specs.declared.shape.Shape.{Shape}
use Rattle.ejson_codec.specs.declared.shape.Shape.TheVariants.{Plain, Date, Binary, Escape, User, Unsupported}

-- ---- a value's tree reads as the value

accepted : (z : ℤ) → IsWhole z → IsAccepted (of_integer z) z
accepted (pos n) h = (refl, h)
accepted (negsuc n) h = (refl, h)

pub keys_of_members-members_written : (fs : Fields) → keys_of_members (members_written fs) ≡ names_of fs
keys_of_members-members_written no_fields = refl
keys_of_members-members_written (field name v fs) = ap (λ (ks : List (List ℕ)). name ∷ ks) (keys_of_members-members_written fs)

-- a key set that is none of the special ones
plain_one : (a : List ℕ) → is_special (a ∷ []) ≡ false → shape_of_one a ≡ Plain
plain_one a h =
    let p = or_parts (is_name a (codes "$date") || is_name a (codes "$binary") || is_name a (codes "$escape")) (is_name a (codes "$InfNaN")) h in
    let q = or_parts (is_name a (codes "$date") || is_name a (codes "$binary")) (is_name a (codes "$escape")) p.0 in
    let r = or_parts (is_name a (codes "$date")) (is_name a (codes "$binary")) q.0 in
    rw (r.0, r.1, q.1, p.1) refl

plain_two : (a b : List ℕ) → is_special (a ∷ b ∷ []) ≡ false → shape_of_two a b ≡ Plain
plain_two a b h =
    let p = or_parts (is_name a (codes "$flags") && is_name b (codes "$regexp")) (is_name a (codes "$type") && is_name b (codes "$value")) h in
    rw (p.0, p.1) refl

pub plain_names : (names : List (List ℕ)) → is_special names ≡ false → shape_of names ≡ Plain
plain_names [] h = refl
plain_names (a ∷ []) h = plain_one a h
plain_names (a ∷ b ∷ []) h = plain_two a b h
plain_names (a ∷ b ∷ c ∷ names) h = refl

-- an object reads so under its own keys, or under `$escape`
escaped_reads : (special : Bool) (ms : Members) (es : Entries) (v : Val) → (special ≡ false → shape_of (keys_of_members ms) ≡ Plain) →
    MembersRead ms es → v ≡ object (fields_of es)
    → Reads (escaped_if special ms) v
escaped_reads true ms es v plain inside is = (es, inside, is)
escaped_reads false ms es v plain inside is = rw (plain refl) (es, inside, is)

mutual
  pub reads_written : (v : Val) → IsValue v → Reads (written v) v
  reads_written null h = refl
  reads_written (boolean b) h = refl
  reads_written (int z) h = (z, accepted z h, refl)
  reads_written (text s) h = refl
  reads_written (date z) h = (z, accepted z h, refl)
  reads_written (bytes s) h = (s, refl, h, refl)
  reads_written (list vs) h = (list_of vs, items_read_written vs h, ap list (sym (vals_of-list_of vs)))
  reads_written (object fs) h =
      escaped_reads (is_special (names_of fs)) (members_written fs) (entries_of fs) (object fs)
      (λ plain. ap shape_of (keys_of_members-members_written fs) ∙ plain_names (names_of fs) plain)
      (members_read_written fs h.1) (ap object (sym (fields_of-entries_of fs)))
  reads_written (user name v) h = (name, v, (refl, h.0), reads_written v h.1, refl)

  items_read_written : (vs : Vals) → AreValues vs → ItemsRead (items_written vs) (list_of vs)
  items_read_written no_vals h = refl
  items_read_written (val v vs) h = (v, list_of vs, reads_written v h.0, items_read_written vs h.1, refl)

  members_read_written : (fs : Fields) → HaveValues fs → MembersRead (members_written fs) (entries_of fs)
  members_read_written no_fields h = refl
  members_read_written (field name v fs) h = (v, entries_of fs, reads_written v h.0, members_read_written fs h.1, refl)

-- ---- no other tree does

-- an object's member, from the list of its keys
only_member : (ms : Members) (key : List ℕ) → keys_of_members ms ≡ key ∷ [] → ms ≡ member key (first_of ms) no_members
only_member no_members key h = absurd (cc h)
only_member (member k d no_members) key h = let e : k ≡ key = cc h in ap (λ (x : List ℕ). member x d no_members) e
only_member (member k d (member l f ms)) key h = absurd (cc h)

pub name_is : (a b : List ℕ) → is_name a b ≡ true → a ≡ b
name_is a b h = (bytes_eq-Decides a b).0 h

-- which key an object has, by what it stands for
abbrev OneKey : Shape → List ℕ → Type 0
OneKey Plain a = is_special (a ∷ []) ≡ false
OneKey Date a = a ≡ codes "$date"
OneKey Binary a = a ≡ codes "$binary"
OneKey Escape a = a ≡ codes "$escape"
OneKey User a = ⊥
OneKey Unsupported a = Unit {0}

one_key_at : (a : List ℕ) (d b e i : Bool) → is_name a (codes "$date") ≡ d → is_name a (codes "$binary") ≡ b → is_name a (codes "$escape") ≡ e →
    is_name a (codes "$InfNaN") ≡ i
    → OneKey (shape_of_one a) a
one_key_at a true b e i hd hb he hi = rw hd (name_is a (codes "$date") hd)
one_key_at a false true e i hd hb he hi = rw (hd, hb) (name_is a (codes "$binary") hb)
one_key_at a false false true i hd hb he hi = rw (hd, hb, he) (name_is a (codes "$escape") he)
one_key_at a false false false true hd hb he hi = rw (hd, hb, he, hi) tt
one_key_at a false false false false hd hb he hi =
    let shape : shape_of_one a ≡ Plain = rw (hd, hb, he, hi) refl in
    let names : is_special (a ∷ []) ≡ false = rw (hd, hb, he, hi) refl in
    subst (λ (s : Shape). OneKey s a) (sym shape) names

one_key : (a : List ℕ) → OneKey (shape_of_one a) a
one_key a = one_key_at a _ _ _ _ refl refl refl refl

-- the key sets of each shape
abbrev KeySet : Shape → List (List ℕ) → Type 0
KeySet Plain names = is_special names ≡ false
KeySet Date names = names ≡ codes "$date" ∷ []
KeySet Binary names = names ≡ codes "$binary" ∷ []
KeySet Escape names = names ≡ codes "$escape" ∷ []
KeySet User names = names ≡ codes "$type" ∷ codes "$value" ∷ []
KeySet Unsupported names = Unit {0}

key_set_one : (shape : Shape) (a : List ℕ) → OneKey shape a → KeySet shape (a ∷ [])
key_set_one Plain a h = h
key_set_one Date a h = ap (λ (k : List ℕ). k ∷ []) h
key_set_one Binary a h = ap (λ (k : List ℕ). k ∷ []) h
key_set_one Escape a h = ap (λ (k : List ℕ). k ∷ []) h
key_set_one User a h = absurd h
key_set_one Unsupported a h = tt

key_set_two : (a b : List ℕ) (r t : Bool) → (is_name a (codes "$flags") && is_name b (codes "$regexp")) ≡ r →
    (is_name a (codes "$type") && is_name b (codes "$value")) ≡ t
    → KeySet (shape_of_two a b) (a ∷ b ∷ [])
key_set_two a b true t hr ht = rw hr tt
key_set_two a b false true hr ht =
    let parts = both_true (is_name a (codes "$type")) (is_name b (codes "$value")) ht in
    let names : a ∷ b ∷ [] ≡ codes "$type" ∷ codes "$value" ∷ [] =
    ap₂ (λ (x y : List ℕ). x ∷ y ∷ []) (name_is a (codes "$type") parts.0) (name_is b (codes "$value") parts.1) in
    rw (hr, ht) names
key_set_two a b false false hr ht =
    let shape : shape_of_two a b ≡ Plain = rw (hr, ht) refl in
    let names : is_special (a ∷ b ∷ []) ≡ false = rw (hr, ht) refl in
    subst (λ (s : Shape). KeySet s (a ∷ b ∷ [])) (sym shape) names

pub key_set : (names : List (List ℕ)) → KeySet (shape_of names) names
key_set [] = refl
key_set (a ∷ []) = key_set_one (shape_of_one a) a (one_key a)
key_set (a ∷ b ∷ []) = key_set_two a b _ _ refl refl
key_set (a ∷ b ∷ c ∷ names) = refl

-- by what the object stands for, with the shape known in each case
not_below : (n : ℕ) → pos n <ℤ pos 0 → ⊥
not_below n h = omega (arith, ints, h)

by_shape_cases : (shape : Shape) (P Q R S T X : Type 0) → (shape ≡ Plain → P → X) → (shape ≡ Date → Q → X) → (shape ≡ Binary → R → X) →
    (shape ≡ Escape → S → X) → (shape ≡ User → T → X)
    → ByShape shape P Q R S T → X
by_shape_cases Plain P Q R S T X p q r s t h = p refl h
by_shape_cases Date P Q R S T X p q r s t h = q refl h
by_shape_cases Binary P Q R S T X p q r s t h = r refl h
by_shape_cases Escape P Q R S T X p q r s t h = s refl h
by_shape_cases User P Q R S T X p q r s t h = t refl h
by_shape_cases Unsupported P Q R S T X p q r s t h = absurd h

number_only : (n : Num) (z : ℤ) → IsAccepted n z → IsHeldOnce n → n ≡ of_integer z
number_only (unsigned n) z h once = ap of_integer (sym h.0)
number_only (negative (pos n)) z h once = absurd (not_below n once)
number_only (negative (negsuc n)) z h once = ap of_integer (sym h.0)
number_only (float x) z h once = absurd h

-- an object that stands for a date or for binary data, from its one member
date_only : (ms : Members) (v : Val) → keys_of_members ms ≡ codes "$date" ∷ [] → IsDate (first_of ms) v → MembersHoldNumbersOnce ms → json.object ms ≡ written v
date_only ms v keys is once = only_date (first_of ms) v ms (only_member ms (codes "$date") keys) is once
  where
    only_date : (d : Data) (v : Val) (ms : Members) → ms ≡ member (codes "$date") d no_members → IsDate d v → MembersHoldNumbersOnce ms →
        json.object ms ≡ written v
    only_date (json.number n) v ms whole is once =
        let held = rw whole at once in
        ap json.object whole ∙ ap (λ (m : Num). alone (codes "$date") (json.number m)) (number_only n is.0 is.1 held.0) ∙ ap written (sym is.2)
    only_date json.null v ms whole is once = absurd is
    only_date (json.boolean b) v ms whole is once = absurd is
    only_date (json.string s) v ms whole is once = absurd is
    only_date (json.array ds) v ms whole is once = absurd is
    only_date (json.object inner) v ms whole is once = absurd is

binary_only : (ms : Members) (v : Val) → keys_of_members ms ≡ codes "$binary" ∷ [] → IsBinary (first_of ms) v → json.object ms ≡ written v
binary_only ms v keys is = only_binary (first_of ms) v ms (only_member ms (codes "$binary") keys) is
  where
    only_binary : (d : Data) (v : Val) (ms : Members) → ms ≡ member (codes "$binary") d no_members → IsBinary d v → json.object ms ≡ written v
    only_binary (json.string s) v ms whole is =
        ap json.object whole ∙ ap (λ (t : List ℕ). alone (codes "$binary") (json.string t)) is.1 ∙ ap written (sym is.3)
    only_binary json.null v ms whole is = absurd is
    only_binary (json.boolean b) v ms whole is = absurd is
    only_binary (json.number n) v ms whole is = absurd is
    only_binary (json.array ds) v ms whole is = absurd is
    only_binary (json.object inner) v ms whole is = absurd is

-- an object under its own keys
plain_only : (ms : Members) (v : Val) (es : Entries) → v ≡ object (fields_of es) → ms ≡ members_written (fields_of es) →
    is_special (keys_of_members ms) ≡ false → json.object ms ≡ written v
plain_only ms v es is same plain =
    let names : is_special (names_of (fields_of es)) ≡ false =
    ap is_special (sym (keys_of_members-members_written (fields_of es)) ∙ ap keys_of_members (sym same)) ∙ plain in
    ap json.object same ∙ sym (ap (λ (b : Bool). escaped_if b (members_written (fields_of es))) names) ∙ ap written (sym is)

-- an object under `$escape`
escape_only : (ms inner : Members) (v : Val) (es : Entries) → ms ≡ member (codes "$escape") (json.object inner) no_members → v ≡ object (fields_of es) →
    inner ≡ members_written (fields_of es)
    → is_special (keys_of_members inner) ≡ true → json.object ms ≡ written v
escape_only ms inner v es whole is same special =
    let names : is_special (names_of (fields_of es)) ≡ true =
    ap is_special (sym (keys_of_members-members_written (fields_of es)) ∙ ap keys_of_members (sym same)) ∙ special in
    ap json.object whole ∙ ap (λ (x : Members). alone (codes "$escape") (json.object x)) same
    ∙ sym (ap (λ (b : Bool). escaped_if b (members_written (fields_of es))) names) ∙ ap written (sym is)

no_keys : (ms : Members) → keys_of_members ms ≡ [] → ms ≡ no_members
no_keys no_members h = refl
no_keys (member key d ms) h = absurd (cc h)

-- the object of a value of a user type
user_from : (key other : List ℕ) (named d : Data) (ms : Members) (v : Val) (name : List ℕ) (w : Val)
    → keys_of_members (member key named (member other d ms)) ≡ codes "$type" ∷ codes "$value" ∷ [] → IsNamed named name → d ≡ written w → v ≡ user name w
    → json.object (member key named (member other d ms)) ≡ written v
user_from key other (json.string s) d ms v name w keys is same whole =
    let first : key ≡ codes "$type" = cc keys in
    let second : other ≡ codes "$value" = cc keys in
    let none : keys_of_members ms ≡ [] = cc keys in
    ap (λ (x : List ℕ). json.object (member x (json.string s) (member other d ms))) first
    ∙ ap (λ (x : List ℕ). json.object (member (codes "$type") (json.string s) (member x d ms))) second
    ∙ ap (λ (x : Members). json.object (member (codes "$type") (json.string s) (member (codes "$value") d x))) (no_keys ms none)
    ∙ ap₂ user_object (sym is.0) same ∙ ap written (sym whole)
user_from key other json.null d ms v name w keys is same whole = absurd is
user_from key other (json.boolean b) d ms v name w keys is same whole = absurd is
user_from key other (json.number n) d ms v name w keys is same whole = absurd is
user_from key other (json.array ds) d ms v name w keys is same whole = absurd is
user_from key other (json.object inner) d ms v name w keys is same whole = absurd is

mutual
  pub only_written : (d : Data) (v : Val) → Reads d v → HoldsNumbersOnce d → IsEscapedExactly d → d ≡ written v
  only_written json.null v h once exact = ap written (sym h)
  only_written (json.boolean b) v h once exact = ap written (sym h)
  only_written (json.number n) v h once exact = ap json.number (number_only n h.0 h.1 once) ∙ ap written (sym h.2)
  only_written (json.string s) v h once exact = ap written (sym h)
  only_written (json.array ds) v h once exact = ap json.array (items_only_written ds h.0 h.1 once exact) ∙ ap written (sym h.2)
  only_written (json.object ms) v h once exact =
      by_shape_cases (shape_of (keys_of_members ms)) ((es : Entries) × MembersRead ms es × (v ≡ object (fields_of es))) (IsDate (first_of ms) v)
      (IsBinary (first_of ms) v) (EscapeReads ms v) (UserReads ms v) (json.object ms ≡ written v)
      (λ shape r.
      let inside : MembersAreEscapedExactly ms = subst
      (λ (s : Shape). ByShape s (MembersAreEscapedExactly ms) (Unit {0}) (Unit {0}) (EscapesSpecial ms) (MembersAreEscapedExactly ms)) shape exact in
      let plain : is_special (keys_of_members ms) ≡ false = subst (λ (s : Shape). KeySet s (keys_of_members ms)) shape (key_set (keys_of_members ms)) in
      plain_only ms v r.0 r.2 (members_only_written ms r.0 r.1 once inside) plain)
      (λ shape r. date_only ms v (subst (λ (s : Shape). KeySet s (keys_of_members ms)) shape (key_set (keys_of_members ms))) r once)
      (λ shape r. binary_only ms v (subst (λ (s : Shape). KeySet s (keys_of_members ms)) shape (key_set (keys_of_members ms))) r)
      (λ shape r.
      escape_only_written ms v (subst (λ (s : Shape). KeySet s (keys_of_members ms)) shape (key_set (keys_of_members ms))) r once
      (subst (λ (s : Shape). ByShape s (MembersAreEscapedExactly ms) (Unit {0}) (Unit {0}) (EscapesSpecial ms) (MembersAreEscapedExactly ms)) shape exact))
      (λ shape r.
      user_only_written ms v (subst (λ (s : Shape). KeySet s (keys_of_members ms)) shape (key_set (keys_of_members ms))) r once
      (subst (λ (s : Shape). ByShape s (MembersAreEscapedExactly ms) (Unit {0}) (Unit {0}) (EscapesSpecial ms) (MembersAreEscapedExactly ms)) shape exact))
      h

  pub items_only_written : (ds : Items) (vs : List Val) → ItemsRead ds vs → ItemsHoldNumbersOnce ds → ItemsAreEscapedExactly ds →
      ds ≡ items_written (vals_of vs)
  items_only_written no_items vs h once exact = ap (λ (ws : List Val). items_written (vals_of ws)) (sym h)
  items_only_written (item d ds) vs h once exact =
      ap₂ item (only_written d h.0 h.2 once.0 exact.0) (items_only_written ds h.1 h.3 once.1 exact.1)
      ∙ ap (λ (ws : List Val). items_written (vals_of ws)) (sym h.4)

  pub members_only_written : (ms : Members) (es : Entries) → MembersRead ms es → MembersHoldNumbersOnce ms → MembersAreEscapedExactly ms →
      ms ≡ members_written (fields_of es)
  members_only_written no_members es h once exact = ap (λ (fs : Entries). members_written (fields_of fs)) (sym h)
  members_only_written (member key d ms) es h once exact =
      ap₂ (member key) (only_written d h.0 h.2 once.0 exact.0) (members_only_written ms h.1 h.3 once.1 exact.1)
      ∙ ap (λ (fs : Entries). members_written (fields_of fs)) (sym h.4)

  escape_only_written : (ms : Members) (v : Val) → keys_of_members ms ≡ codes "$escape" ∷ [] → EscapeReads ms v → MembersHoldNumbersOnce ms →
      EscapesSpecial ms → json.object ms ≡ written v
  escape_only_written no_members v keys h once exact = absurd h
  escape_only_written (member key json.null ms) v keys h once exact = absurd h
  escape_only_written (member key (json.boolean b) ms) v keys h once exact = absurd h
  escape_only_written (member key (json.number n) ms) v keys h once exact = absurd h
  escape_only_written (member key (json.string s) ms) v keys h once exact = absurd h
  escape_only_written (member key (json.array ds) ms) v keys h once exact = absurd h
  escape_only_written (member key (json.object inner) ms) v keys h once exact =
      escape_only (member key (json.object inner) ms) inner v h.0 (only_member (member key (json.object inner) ms) (codes "$escape") keys) h.2
      (members_only_written inner h.0 h.1 once.0 exact.1) exact.0

  user_only_written : (ms : Members) (v : Val) → keys_of_members ms ≡ codes "$type" ∷ codes "$value" ∷ [] → UserReads ms v → MembersHoldNumbersOnce ms →
      MembersAreEscapedExactly ms → json.object ms ≡ written v
  user_only_written no_members v keys h once exact = absurd h
  user_only_written (member key named no_members) v keys h once exact = absurd h
  user_only_written (member key named (member other d ms)) v keys h once exact =
      user_from key other named d ms v h.0 h.1 keys h.2 (only_written d h.1 h.3 once.1.0 exact.1.0) h.4
