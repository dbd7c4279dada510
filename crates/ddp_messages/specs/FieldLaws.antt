-- Answers made of answers, taken apart and put together.
use Rattle.std.specs.Prelude.{◌≡◌, ℕ, List, [], ◌∷◌, length, Bool, true, false, Option, Some, None, option_map, option_and_then, if◌then◌else◌, refl}
use Rattle.std.proofs.Common.{ap, ◌∙◌}
use Rattle.std.proofs.lemmas.Bool.{le-leb}
use Rattle.serde_json.specs.Data.{string}
use Rattle.serde_json.specs.Find.{as_str}
use Rattle.value_model.specs.Val.{Val, Vals, Entries, vals_of, fields_of}
use Rattle.value_model.specs.ValLaws.{entries_of-fields_of}
use Rattle.value_model.specs.Val as value
use Rattle.value_model.specs.Valid.{IsValue, AreValues, IsDocument}
use Rattle.value_model.specs.ValidLaws.{IsValue-object}
use Rattle.ejson_codec.specs.Reading.{max_levels}
use Rattle.ejson_codec.specs.ReadingLaws.{reads_only}
use Rattle.ejson_codec.specs.Written.{written, items_written}
use Rattle.ejson_codec.specs.WrittenLaws.{reads_written}
use Rattle.ddp_messages.specs.Forms.{max_id, id_of, with_first, each_of, ok_of, value_of, fields_of_value, document_of}
use Rattle.ddp_messages.specs.Fields.{map₂, map₃, map₄}
use Rattle.ddp_messages.specs.Written.{text_items}
use Rattle.ddp_messages.specs.Limits.{IsShort, AreShort, IsShallow, AreShallow}

-- ---- taken apart

pub map_some : {A M : Type 0} (f : A → M) (x : Option A) (m : M) → option_map f x ≡ Some m → (a : A) × (x ≡ Some a) × (f a ≡ m)
map_some f None m h = absurd (cc h)
map_some f (Some a) m h = (a, refl, cc h)

pub and_then_some : {A M : Type 0} (f : A → Option M) (x : Option A) (m : M) → option_and_then f x ≡ Some m → (a : A) × (x ≡ Some a) × (f a ≡ Some m)
and_then_some f None m h = absurd (cc h)
and_then_some f (Some a) m h = (a, refl, h)

pub map₂_some : {A B M : Type 0} (f : A → B → M) (x : Option A) (y : Option B) (m : M) → map₂ f x y ≡ Some m →
    (a : A) × (b : B) × (x ≡ Some a) × (y ≡ Some b) × (f a b ≡ m)
map₂_some f None y m h = absurd (cc h)
map₂_some f (Some a) y m h = let p = map_some (f a) y m h in (a, p.0, refl, p.1, p.2)

pub map₃_some : {A B C M : Type 0} (f : A → B → C → M) (x : Option A) (y : Option B) (z : Option C) (m : M) → map₃ f x y z ≡ Some m
    → (a : A) × (b : B) × (c : C) × (x ≡ Some a) × (y ≡ Some b) × (z ≡ Some c) × (f a b c ≡ m)
map₃_some f None y z m h = absurd (cc h)
map₃_some f (Some a) y z m h = let p = map₂_some (f a) y z m h in (a, p.0, p.1, refl, p.2, p.3, p.4)

pub map₄_some : {A B C D M : Type 0} (f : A → B → C → D → M) (x : Option A) (y : Option B) (z : Option C) (w : Option D) (m : M) → map₄ f x y z w ≡ Some m
    → (a : A) × (b : B) × (c : C) × (d : D) × (x ≡ Some a) × (y ≡ Some b) × (z ≡ Some c) × (w ≡ Some d) × (f a b c d ≡ m)
map₄_some f None y z w m h = absurd (cc h)
map₄_some f (Some a) y z w m h = let p = map₃_some (f a) y z w m h in (a, p.0, p.1, p.2, refl, p.3, p.4, p.5, p.6)

-- one test of many
pub by_test : {M P : Type 0} (b : Bool) (x y : Option M) (m : M) → (b ≡ true → x ≡ Some m → P) → (b ≡ false → y ≡ Some m → P) →
    (if b then x else y) ≡ Some m → P
by_test true x y m p q h = p refl h
by_test false x y m p q h = q refl h

-- ---- put together

pub map₂_from : {A B M : Type 0} (f : A → B → M) (x : Option A) (y : Option B) (a : A) (b : B) → x ≡ Some a → y ≡ Some b → map₂ f x y ≡ Some (f a b)
map₂_from {A = A} f x y a b hx hy = ap (λ (o : Option A). map₂ f o y) hx ∙ ap (option_map (f a)) hy

pub map₃_from : {A B C M : Type 0} (f : A → B → C → M) (x : Option A) (y : Option B) (z : Option C) (a : A) (b : B) (c : C) → x ≡ Some a → y ≡ Some b →
    z ≡ Some c
    → map₃ f x y z ≡ Some (f a b c)
map₃_from {A = A} f x y z a b c hx hy hz = ap (λ (o : Option A). map₃ f o y z) hx ∙ map₂_from (f a) y z b c hy hz

pub map₄_from : {A B C D M : Type 0} (f : A → B → C → D → M) (x : Option A) (y : Option B) (z : Option C) (w : Option D) (a : A) (b : B) (c : C) (d : D)
    → x ≡ Some a → y ≡ Some b → z ≡ Some c → w ≡ Some d → map₄ f x y z w ≡ Some (f a b c d)
map₄_from {A = A} f x y z w a b c d hx hy hz hw = ap (λ (o : Option A). map₄ f o y z w) hx ∙ map₃_from (f a) y z w b c d hy hz hw

-- ---- what was written reads back

pub id_back : (id : List ℕ) → IsShort id → id_of (string id) ≡ Some id
id_back id short = ap (λ (b : Bool). if b then Some id else None) (le-leb (length id) max_id short)

pub texts_back : (ss : List (List ℕ)) → each_of as_str (text_items ss) ≡ Some ss
texts_back [] = refl
texts_back (s ∷ ss) = ap (option_map (λ (more : List (List ℕ)). s ∷ more)) (texts_back ss)

pub ids_back : (ids : List (List ℕ)) → AreShort ids → each_of id_of (text_items ids) ≡ Some ids
ids_back [] h = refl
ids_back (id ∷ ids) h =
    ap (λ (o : Option (List ℕ)). with_first o (each_of id_of (text_items ids))) (id_back id h.0)
    ∙ ap (option_map (λ (more : List (List ℕ)). id ∷ more)) (ids_back ids h.1)

pub value_back : (v : Val) → IsValue v → IsShallow v → value_of (written v) ≡ Some v
value_back v is shallow = ap ok_of (reads_only max_levels (written v) v (reads_written v is) shallow)

pub values_back : (vs : List Val) → AreValues (vals_of vs) → AreShallow vs → each_of value_of (items_written (vals_of vs)) ≡ Some vs
values_back [] is shallow = refl
values_back (v ∷ vs) is shallow =
    ap (λ (o : Option Val). with_first o (each_of value_of (items_written (vals_of vs)))) (value_back v is.0 shallow.0)
    ∙ ap (option_map (λ (more : List Val). v ∷ more)) (values_back vs is.1 shallow.1)

pub document_back : (es : Entries) → IsDocument es → IsShallow (value.object (fields_of es)) → document_of (written (value.object (fields_of es))) ≡ Some es
document_back es is shallow =
    ap (option_and_then fields_of_value) (value_back (value.object (fields_of es)) (IsValue-object es is) shallow) ∙ ap Some (entries_of-fields_of es)
