-- What a tree is that reads as a text or as a list.
use Rattle.std.specs.Prelude.{◌≡◌, ℕ, zero, suc, ◌≤◌, List, Option, Some, None, Result, Ok, Err, refl}
use Rattle.std.proofs.Common.{sym, ap, subst, ◌∙◌, arith}
use Rattle.serde_json.specs.Data.{Data, Items, Members, no_members, member}
use Rattle.serde_json.specs.Data as json
use Rattle.serde_json.specs.Find.{as_str, as_array}
use Rattle.value_model.specs.Val.{Val, Vals, int, text, date, bytes, list, object, user, vals_of, list_of, Entries, fields_of}
use Rattle.value_model.specs.ValLaws.{list_of-vals_of}
use Rattle.ejson_value.specs.ResultLaws.{made-ok}
use Rattle.ejson_codec.specs.Shape.{keys_of_members, shape_of, first_of}
use Rattle.ejson_codec.specs.Base64.{bytes_of}
use Rattle.ejson_codec.specs.Reading.{reading, items_reading, members_reading, number_reading, date_reading, bytes_reading, binary_reading}
use Rattle.ejson_codec.specs.Reading.{name_reading, user_made, object_made, by_shape, below, escape_reading, user_reading}
use Rattle.ejson_codec.specs.declared.fault.EjsonFault.{EjsonFault}
use Rattle.ejson_codec.specs.declared.shape.Shape.{Shape}
use Rattle.ejson_codec.specs.declared.shape.Shape.TheVariants.{Plain, Date, Binary, Escape, User, Unsupported}

-- ---- what an object can read as

abbrev IsMade : Val → Type 0
IsMade (date z) = Unit {0}
IsMade (bytes s) = Unit {0}
IsMade (object fs) = Unit {0}
IsMade (user name v) = Unit {0}
IsMade _ = ⊥

object_is : (r : Result Entries EjsonFault) (v : Val) → object_made r ≡ Ok v → IsMade v
object_is r v h = let p = made-ok (λ (es : Entries). object (fields_of es)) r v h in subst IsMade p.2 tt

date_is : (d : Data) (v : Val) → date_reading d ≡ Ok v → IsMade v
date_is (json.number n) v h = let p = made-ok date (number_reading n) v h in subst IsMade p.2 tt
date_is json.null v h = absurd (cc h)
date_is (json.boolean b) v h = absurd (cc h)
date_is (json.string s) v h = absurd (cc h)
date_is (json.array ds) v h = absurd (cc h)
date_is (json.object ms) v h = absurd (cc h)

bytes_is : (o : Option (List ℕ)) (v : Val) → bytes_reading o ≡ Ok v → IsMade v
bytes_is None v h = absurd (cc h)
bytes_is (Some b) v h = let is : bytes b ≡ v = cc h in subst IsMade is tt

binary_is : (d : Data) (v : Val) → binary_reading d ≡ Ok v → IsMade v
binary_is (json.string s) v h = bytes_is (bytes_of s) v h
binary_is json.null v h = absurd (cc h)
binary_is (json.boolean b) v h = absurd (cc h)
binary_is (json.number n) v h = absurd (cc h)
binary_is (json.array ds) v h = absurd (cc h)
binary_is (json.object ms) v h = absurd (cc h)

escape_is : (levels : ℕ) (ms : Members) (v : Val) → escape_reading levels ms ≡ Ok v → IsMade v
escape_is levels no_members v h = absurd (cc h)
escape_is levels (member key json.null ms) v h = absurd (cc h)
escape_is levels (member key (json.boolean b) ms) v h = absurd (cc h)
escape_is levels (member key (json.number n) ms) v h = absurd (cc h)
escape_is levels (member key (json.string s) ms) v h = absurd (cc h)
escape_is levels (member key (json.array ds) ms) v h = absurd (cc h)
escape_is levels (member key (json.object inner) ms) v h = object_is (below levels (λ left. members_reading left inner)) v h

user_made_is : (named : Result (List ℕ) EjsonFault) (inner : Result Val EjsonFault) (v : Val) → user_made named inner ≡ Ok v → IsMade v
user_made_is (Ok name) inner v h = let p = made-ok (user name) inner v h in subst IsMade p.2 tt
user_made_is (Err e) inner v h = absurd (cc h)

user_is : (levels : ℕ) (ms : Members) (v : Val) → user_reading levels ms ≡ Ok v → IsMade v
user_is levels no_members v h = absurd (cc h)
user_is levels (member key named no_members) v h = absurd (cc h)
user_is zero (member key named (member other d ms)) v h = absurd (cc h)
user_is (suc levels) (member key named (member other d ms)) v h = user_made_is (name_reading named) (reading levels d) v h

shape_is : (shape : Shape) (a b c d e : Result Val EjsonFault) (v : Val) → (a ≡ Ok v → IsMade v) → (b ≡ Ok v → IsMade v) → (c ≡ Ok v → IsMade v) →
    (d ≡ Ok v → IsMade v) → (e ≡ Ok v → IsMade v)
    → by_shape shape a b c d e ≡ Ok v → IsMade v
shape_is Plain a b c d e v p q r s t h = p h
shape_is Date a b c d e v p q r s t h = q h
shape_is Binary a b c d e v p q r s t h = r h
shape_is Escape a b c d e v p q r s t h = s h
shape_is User a b c d e v p q r s t h = t h
shape_is Unsupported a b c d e v p q r s t h = absurd (cc h)

made_is : (levels : ℕ) (ms : Members) (v : Val) → reading levels (json.object ms) ≡ Ok v → IsMade v
made_is levels ms v h =
    shape_is (shape_of (keys_of_members ms)) (object_made (below levels (λ left. members_reading left ms))) (date_reading (first_of ms))
    (binary_reading (first_of ms)) (escape_reading levels ms) (user_reading levels ms) v
    (λ is. object_is (below levels (λ left. members_reading left ms)) v is) (λ is. date_is (first_of ms) v is) (λ is. binary_is (first_of ms) v is)
    (λ is. escape_is levels ms v is) (λ is. user_is levels ms v is) h

-- ---- texts and lists

-- a tree that reads as a text is that string
pub text_is : (levels : ℕ) (d : Data) (s : List ℕ) → reading levels d ≡ Ok (text s) → as_str d ≡ Some s
text_is levels json.null s h = absurd (cc h)
text_is levels (json.boolean b) s h = absurd (cc h)
text_is levels (json.number n) s h = let p = made-ok int (number_reading n) (text s) h in absurd (cc p.2)
text_is levels (json.string t) s h = let same : t ≡ s = cc h in ap (λ (x : List ℕ). Some x) same
text_is levels (json.array ds) s h =
    let p = made-ok (λ (vs : List Val). list (vals_of vs)) (below levels (λ left. items_reading left ds)) (text s) h in absurd (cc p.2)
text_is levels (json.object ms) s h = absurd (made_is levels ms (text s) h)

in_below : {A : Type 0} (levels : ℕ) (f : ℕ → Result A EjsonFault) (a : A) → below levels f ≡ Ok a → (left : ℕ) × (left ≤ levels) × (f left ≡ Ok a)
in_below zero f a h = absurd (cc h)
in_below (suc left) f a h = (left, omega arith, h)

-- a tree that reads as a list is an array, whose elements read as those of the list
pub list_is : (levels : ℕ) (d : Data) (vs : Vals) → reading levels d ≡ Ok (list vs) →
    (ds : Items) × (left : ℕ) × (as_array d ≡ Some ds) × (left ≤ levels) × (items_reading left ds ≡ Ok (list_of vs))
list_is levels json.null vs h = absurd (cc h)
list_is levels (json.boolean b) vs h = absurd (cc h)
list_is levels (json.number n) vs h = let p = made-ok int (number_reading n) (list vs) h in absurd (cc p.2)
list_is levels (json.string t) vs h = absurd (cc h)
list_is levels (json.array ds) vs h =
    let p = made-ok (λ (xs : List Val). list (vals_of xs)) (below levels (λ left. items_reading left ds)) (list vs) h in
    let same : vals_of p.0 ≡ vs = cc p.2 in
    let q = in_below levels (λ left. items_reading left ds) p.0 p.1 in
    (ds, q.0, refl, q.1, q.2 ∙ ap (λ (xs : List Val). Ok xs) (sym (list_of-vals_of p.0) ∙ ap list_of same))
list_is levels (json.object ms) vs h = absurd (made_is levels ms (list vs) h)
