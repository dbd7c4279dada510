-- What a walk answers where a part of it fails.
use Rattle.std.proofs.Common.{◌≡◌, ◌≢◌, ℕ, zero, suc, ◌-◌, List, [], ◌∷◌, None, Result, Ok, Err, String, Global, string_bytes, refl, ap, ap₂, ◌∙◌, arith}
use Rattle.std.specs.BTreeMap.{BTreeMap}
use Rattle.std.specs.Map.{values_of}
use Rattle.serde_json.specs.Data.{Data, Members, no_members, member}
use Rattle.serde_json.specs.Data as json
use Rattle.serde_json.specs.Find.{as_object}
use Rattle.serde_json.specs.View.{view as json_view}
use Rattle.serde_json.specs.View.{members_view}
use Rattle.serde_json.specs.declared.value.Value.{Value as Json}
use Rattle.serde_json.specs.declared.value.Value.{Object}
use Rattle.serde_json.proofs.Views.{view-Object}
use Rattle.value_model.specs.Val.{Entries, object, fields_of}
use Rattle.ejson_codec.specs.Reading.{Gives, below, name_reading, user_made, object_made, reading, members_reading, escape_reading, user_reading}
use Rattle.ejson_codec.specs.declared.fault.EjsonFault.{EjsonFault}
use Rattle.ejson_codec.specs.declared.fault.EjsonFault.TheVariants as fault
use Rattle.ejson_codec.specs.declared.fault.ReadFault.{ReadFault}
use Rattle.ejson_codec.specs.declared.fault.ReadFault.TheVariants.{Ejson, Memory}
use Rattle.ejson_codec.proofs.Members.{Entry}

-- a part's fault is the whole's, and want of memory is free
pub fault_passed : {A B C D : Type 0} (f : A → B) (g : C → D) (e : ReadFault) (part : Result B EjsonFault) (whole : Result D EjsonFault)
    → Gives f (Err e) part → ((x : EjsonFault) → part ≡ Err x → whole ≡ Err x) → Gives g (Err e) whole
fault_passed f g (Ejson x) part whole is passes = passes x is
fault_passed f g Memory part whole is passes = tt

pub below_some : {A : Type 0} (levels : ℕ) (f : ℕ → Result A EjsonFault) → levels ≢ 0 → below levels f ≡ f (levels - 1)
below_some zero f some = absurd (some refl)
below_some (suc left) f some = let e : left ≡ suc left - 1 = omega arith in ap f e

-- the same, one level further down
pub fault_passed_below : {A B C D : Type 0} (f : A → B) (g : C → D) (e : ReadFault) (part : Result B EjsonFault) (levels : ℕ) (inside : ℕ → Result D EjsonFault)
    → levels ≢ 0 → Gives f (Err e) part → ((x : EjsonFault) → part ≡ Err x → inside (levels - 1) ≡ Err x) → Gives g (Err e) (below levels inside)
fault_passed_below f g e part levels inside some is passes =
    fault_passed f g e part (below levels inside) is (λ x refused. below_some levels inside some ∙ passes x refused)

escape_at : (levels : ℕ) (key : List ℕ) (d : Data) (inner ms : Members) → d ≡ json.object inner
    → escape_reading levels (member key d ms) ≡ object_made (below levels (λ left. members_reading left inner))
escape_at levels key d inner ms is = ap (λ (x : Data). escape_reading levels (member key x ms)) is

-- an object at the first key is what is read under its own keys
pub escape_object : (levels : ℕ) (es : List Entry) (tree : Json) (more : List Json) (inner : BTreeMap (String Global) Json) → values_of es ≡ tree ∷ more → tree ≡ Object inner
    → escape_reading levels (members_view es) ≡ object_made (below levels (λ left. members_reading left (members_view inner.entries)))
escape_object levels [] tree more inner found is = absurd (cc found)
escape_object levels (e ∷ es) tree more inner found is =
    let same : e.1 ≡ tree = cc found in
    escape_at levels (string_bytes e.0) (json_view e.1) (members_view inner.entries) (members_view es) (ap json_view (same ∙ is) ∙ view-Object inner)

escape_other_at : (levels : ℕ) (key : List ℕ) (d : Data) (ms : Members) → as_object d ≡ None → escape_reading levels (member key d ms) ≡ Err fault.BadEscape
escape_other_at levels key json.null ms none = refl
escape_other_at levels key (json.boolean b) ms none = refl
escape_other_at levels key (json.number n) ms none = refl
escape_other_at levels key (json.string s) ms none = refl
escape_other_at levels key (json.array ds) ms none = refl
escape_other_at levels key (json.object inner) ms none = absurd (cc none)

pub escape_other : (levels : ℕ) (es : List Entry) (tree : Json) (more : List Json) → values_of es ≡ tree ∷ more → as_object (json_view tree) ≡ None
    → escape_reading levels (members_view es) ≡ Err fault.BadEscape
escape_other levels [] tree more found none = absurd (cc found)
escape_other levels (e ∷ es) tree more found none =
    let same : e.1 ≡ tree = cc found in
    escape_other_at levels (string_bytes e.0) (json_view e.1) (members_view es) (ap (λ (t : Json). as_object (json_view t)) same ∙ none)

-- what stands at the two keys of a value of a user type
user_at : (levels : ℕ) (es : List Entry) (named tree : Json) (more : List Json) → values_of es ≡ named ∷ tree ∷ more
    → user_reading levels (members_view es) ≡ below levels (λ left. user_made (name_reading (json_view named)) (reading left (json_view tree)))
user_at levels [] named tree more found = absurd (cc found)
user_at levels (e ∷ []) named tree more found = absurd (cc found)
user_at levels (e ∷ f ∷ es) named tree more found =
    let first : e.1 ≡ named = cc found in
    let second : f.1 ≡ tree = cc found in
    ap₂ (λ (x y : Json). below levels (λ left. user_made (name_reading (json_view x)) (reading left (json_view y)))) first second

pub user_too_deep : (levels : ℕ) (es : List Entry) (named tree : Json) (more : List Json) → values_of es ≡ named ∷ tree ∷ more → levels ≡ 0 → user_reading levels (members_view es) ≡ Err fault.TooDeep
user_too_deep levels es named tree more found none =
    user_at levels es named tree more found ∙ ap (λ (n : ℕ). below n (λ left. user_made (name_reading (json_view named)) (reading left (json_view tree)))) none

pub user_below : (levels : ℕ) (es : List Entry) (named tree : Json) (more : List Json) → values_of es ≡ named ∷ tree ∷ more → levels ≢ 0
    → user_reading levels (members_view es) ≡ user_made (name_reading (json_view named)) (reading (levels - 1) (json_view tree))
user_below levels es named tree more found some =
    user_at levels es named tree more found ∙ below_some levels (λ left. user_made (name_reading (json_view named)) (reading left (json_view tree))) some

pub user_alone : (levels : ℕ) (es : List Entry) (named : Json) → values_of es ≡ named ∷ [] → user_reading levels (members_view es) ≡ Err fault.BadUser
user_alone levels [] named found = absurd (cc found)
user_alone levels (e ∷ []) named found = refl
user_alone levels (e ∷ f ∷ es) named found = absurd (cc found)

pub object_made_ok : (r : Result Entries EjsonFault) (es : Entries) → r ≡ Ok es → object_made r ≡ Ok (object (fields_of es))
object_made_ok r es is = ap object_made is

pub object_made_err : (r : Result Entries EjsonFault) (e : EjsonFault) → r ≡ Err e → object_made r ≡ Err e
object_made_err r e is = ap object_made is
