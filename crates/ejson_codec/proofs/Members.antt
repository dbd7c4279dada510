-- The members of an object, seen through the walks of its map.
use Rattle.std.proofs.Common.{◌≡◌, List, [], ◌∷◌, map, String, string_bytes, Option, Some, None, MatchOption, Bor, Global, refl, ap, sym, ◌∙◌, ℕ}
use Rattle.std.specs.BTreeMap.{BTreeMap, keys}
use Rattle.std.specs.Map.{keys_of, values_of}
use Rattle.serde_json.specs.Data.{null}
use Rattle.serde_json.specs.View.{view, members_view}
use Rattle.serde_json.specs.declared.value.Value.{Value}
use Rattle.ejson_codec.specs.Shape.{keys_of_members, shape_of, first_of}

abbrev pub Entry : Type 0
Entry = String Global × Value

keys_of_members-members_view : (es : List Entry) → keys_of_members (members_view es) ≡ map string_bytes (keys_of es)
keys_of_members-members_view [] = refl
keys_of_members-members_view (e ∷ es) = ap (λ (ks : List (List ℕ)). string_bytes e.0 ∷ ks) (keys_of_members-members_view es)

-- what an object stands for, by the keys that a walk gives
pub shape_of-keys : (m : BTreeMap (String Global) Value) (found : List (String Global)) → found ≡ keys m
    → shape_of (map string_bytes found) ≡ shape_of (keys_of_members (members_view m.entries))
shape_of-keys m found is = ap shape_of (ap (map string_bytes) is ∙ sym (keys_of_members-members_view m.entries))

-- the tree at the first key
pub first_of-values : (es : List Entry) (first : Value) (more : List Value) → values_of es ≡ first ∷ more → first_of (members_view es) ≡ view first
first_of-values [] first more is = absurd (cc is)
first_of-values (e ∷ es) first more is = let same : e.1 ≡ first = cc is in ap view same

-- what a walk over the trees gives first
pub first_found : (es : List Entry) (found : Option (Bor Value)) (walk rest : List Value) → walk ≡ values_of es
    → MatchOption found ((walk ≡ []) × (rest ≡ [])) (λ x. walk ≡ x.now ∷ rest)
    → MatchOption found (first_of (members_view es) ≡ null) (λ tree. first_of (members_view es) ≡ view tree.now)
first_found [] None walk rest is steps = refl
first_found (e ∷ es) None walk rest is steps = absurd (let same = sym is ∙ steps.0 in cc same)
first_found es (Some x) walk rest is steps = first_of-values es x.now rest (sym is ∙ steps)
