-- What a path reaches, part by part.
use Rattle.std.proofs.Common.{◌≡◌, ℕ, List, [], ◌∷◌, Option, Some, None, refl, ap, sym, ◌∙◌, suc, ◌+◌, ◌-◌, ◌<◌, ◌≤◌, length, take, drop, drop-cons, get_or, add-one, arith}
use Rattle.value_model.specs.Val.{Val, Entries, null, object, fields_of}
use Rattle.value_model.specs.ValLaws.{entries_of-fields_of}
use Rattle.value_model.specs.Doc.{get}
use Rattle.ejson_value.specs.declared.value.Value.{Value}
use Rattle.ejson_value.specs.declared.value.Value.TheVariants as shape
use Rattle.ejson_value.specs.View.{view}
use Rattle.sort_window.specs.Sorting.{reached}

pub reached_none : (path : List (List ℕ)) → reached path None ≡ null
reached_none [] = refl
reached_none (part ∷ rest) = refl

pub reached_field : (es : Entries) (name : List ℕ) (found : Option Val) → found ≡ get es name → (rest : List (List ℕ)) → reached rest found ≡ reached (name ∷ rest) (Some (object (fields_of es)))
reached_field es name found e rest = ap (reached rest) (e ∙ ap (λ fs. get fs name) (sym (entries_of-fields_of es)))

pub reached_other : (v : Value) (name : List ℕ) → ((es : Entries) → v ≡ shape.Object es → ⊥) → (rest : List (List ℕ)) → reached rest None ≡ reached (name ∷ rest) (Some (view v))
reached_other shape.Null name not_object rest = reached_none rest
reached_other (shape.Bool b) name not_object rest = reached_none rest
reached_other (shape.Int z) name not_object rest = reached_none rest
reached_other (shape.Text s) name not_object rest = reached_none rest
reached_other (shape.Date z) name not_object rest = reached_none rest
reached_other (shape.Bytes s) name not_object rest = reached_none rest
reached_other (shape.List vs) name not_object rest = reached_none rest
reached_other (shape.Object es) name not_object rest = absurd (not_object es refl)
reached_other (shape.User n v) name not_object rest = reached_none rest

-- the part at a place, in front of those behind it
pub next_part : (parts : List (List ℕ)) (i : ℕ) (part : List ℕ) → i < length parts → part ≡ get_or parts i part → part ∷ drop (i + 1) parts ≡ drop i parts
next_part parts i part within is = rw add-one (ap (λ p. p ∷ drop (suc i) parts) is ∙ sym (drop-cons parts i part within))

pub first_part : (parts : List (List ℕ)) (es : Entries) (part : List ℕ) (found : Option Val) → 1 ≤ length parts → part ≡ get_or parts 0 part → found ≡ get es part → reached (drop 1 parts) found ≡ reached parts (Some (object (fields_of es)))
first_part [] es part found some is e = absurd (omega arith)
first_part (p ∷ parts) es part found some is e = reached_field es p found (e ∙ ap (get es) is) parts

take_whole : (parts : List (List ℕ)) → take (length parts) parts ≡ parts
take_whole [] = refl
take_whole (p ∷ parts) = ap (λ rest. p ∷ rest) (take_whole parts)

-- all parts but the first
pub rest_is : (parts : List (List ℕ)) → take (length parts - 1) (drop 1 parts) ≡ drop 1 parts
rest_is [] = refl
rest_is (p ∷ parts) =
    let count : length (p ∷ parts) - 1 ≡ length parts = omega arith in
    ap (λ n. take n parts) count ∙ take_whole parts
