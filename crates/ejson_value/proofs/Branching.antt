-- Lemmas of the walk over branches: what a test says of the branches of a path, by what the path goes on from.
use Rattle.std.proofs.Common.{◌≡◌, ℕ, ◌||◌, Bool, true, false, List, [], ◌∷◌, length, Option, Some, None, refl, ap, sym, ◌∙◌}
use Rattle.std.specs.Prelude.{slice_get, option_and_then}
use Rattle.std.specs.List.{list_any, flat_map}
use Rattle.std.specs.Option.{option_map_or}
use Rattle.std.proofs.lemmas.List.Folds.{list_any-append, flat_map-map}
use Rattle.std.proofs.lemmas.Bool.{false≢true}
use Rattle.value_model.specs.Val.{Val, list, object, Entries, vals_of, list_of, fields_of}
use Rattle.value_model.specs.ValLaws.{list_of-vals_of, entries_of-fields_of}
use Rattle.value_model.specs.Doc.{get}
use Rattle.value_model.specs.Branches.{Branch, branches, position_of, field_of, element_at, if_object, is_path}
use Rattle.ejson_value.specs.declared.value.Value.{Value}
use Rattle.ejson_value.specs.View.{view, views}

-- the branches through one element, where it is an object
abbrev pub through : List ℕ → List (List ℕ) → Val → List Branch
through part more v = if_object (λ fs. branches more (field_of fs part) false) v

module _ (p : Option Val → Bool → Bool) (part : List ℕ) (more : List (List ℕ)) where
  pub from_object : (reached : Option Val) (from_list : Bool) (es : Entries) (found : Option Val) → reached ≡ Some (object (fields_of es)) → found ≡ get es part →
      list_any (λ b. p b.0 b.1) (branches more found false) ≡ list_any (λ b. p b.0 b.1) (branches (part ∷ more) reached from_list)
  from_object reached from_list es found is e =
      ap (λ x. list_any (λ b. p b.0 b.1) (branches more x false)) (e ∙ ap (λ fs. get fs part) (sym (entries_of-fields_of es)))
      ∙ ap (λ x. list_any (λ b. p b.0 b.1) (branches (part ∷ more) x from_list)) (sym is)

  pub through_object : (v : Val) (es : Entries) (found : Option Val) → v ≡ object (fields_of es) → found ≡ get es part →
      list_any (λ b. p b.0 b.1) (branches more found false) ≡ list_any (λ b. p b.0 b.1) (through part more v)
  through_object v es found is e =
      ap (λ x. list_any (λ b. p b.0 b.1) (branches more x false)) (e ∙ ap (λ fs. get fs part) (sym (entries_of-fields_of es)))
      ∙ ap (λ x. list_any (λ b. p b.0 b.1) (through part more x)) (sym is)

  pub from_elements : (reached : Option Val) (from_list : Bool) (vs : List Val) → reached ≡ Some (list (vals_of vs)) →
      list_any (λ b. p b.0 b.1) (branches (part ∷ more) reached from_list)
      ≡ (list_any (λ b. p b.0 b.1) (option_map_or (λ v. branches more (Some v) true) (element_at (vals_of vs) part) []) || list_any (λ b. p b.0 b.1) (flat_map (through part more) vs))
  from_elements reached from_list vs is =
      ap (λ x. list_any (λ b. p b.0 b.1) (branches (part ∷ more) x from_list)) is
      ∙ (list_any-append (λ (b : Branch). p b.0 b.1) (option_map_or (λ v. branches more (Some v) true) (element_at (vals_of vs) part) []) (flat_map (through part more) (list_of (vals_of vs)))
      ∙ ap (λ ws. list_any (λ (b : Branch). p b.0 b.1) (option_map_or (λ v. branches more (Some v) true) (element_at (vals_of vs) part) []) || list_any (λ (b : Branch). p b.0 b.1) (flat_map (through part more) ws)) (list_of-vals_of vs))

  pub at_place : (vs : List Val) (place : ℕ) (found : Option Val) → position_of part ≡ Some place → found ≡ slice_get vs place →
      option_map_or (λ v. list_any (λ b. p b.0 b.1) (branches more (Some v) true)) found false
      ≡ list_any (λ b. p b.0 b.1) (option_map_or (λ v. branches more (Some v) true) (element_at (vals_of vs) part) [])
  at_place vs place found e f =
      inside found
      ∙ (ap (λ o. list_any (λ (b : Branch). p b.0 b.1) (option_map_or (λ v. branches more (Some v) true) o [])) (f ∙ ap (λ ws. slice_get ws place) (sym (list_of-vals_of vs)))
      ∙ ap (λ o. list_any (λ (b : Branch). p b.0 b.1) (option_map_or (λ v. branches more (Some v) true) (option_and_then (λ i. slice_get (list_of (vals_of vs)) i) o) [])) (sym e))
    where
      inside : (o : Option Val) → option_map_or (λ v. list_any (λ b. p b.0 b.1) (branches more (Some v) true)) o false ≡ list_any (λ (b : Branch). p b.0 b.1) (option_map_or (λ v. branches more (Some v) true) o [])
      inside None = refl
      inside (Some v) = refl

pub list_any-flat_map : {X A : Type 0} (test : A → Bool) (f : X → List A) (xs : List X) → list_any test (flat_map f xs) ≡ list_any (λ x. list_any test (f x)) xs
list_any-flat_map test f [] = refl
list_any-flat_map test f (x ∷ xs) = list_any-append test (f x) (flat_map f xs) ∙ ap (λ r. list_any test (f x) || r) (list_any-flat_map test f xs)

-- a test over the branches through a list's elements, element by element
pub through_all : (p : Option Val → Bool → Bool) (part : List ℕ) (more : List (List ℕ)) (vs : List Value) (ws : List Val) → views vs ≡ ws →
    list_any (λ b. p b.0 b.1) (flat_map (through part more) ws) ≡ list_any (λ v. list_any (λ b. p b.0 b.1) (through part more (view v))) vs
through_all p part more vs ws e =
    ap (λ us. list_any (λ (b : Branch). p b.0 b.1) (flat_map (through part more) us)) (sym e)
    ∙ (ap (λ bs. list_any (λ (b : Branch). p b.0 b.1) bs) (flat_map-map (through part more) view vs)
    ∙ list_any-flat_map (λ (b : Branch). p b.0 b.1) (λ v. through part more (view v)) vs)

pub neither : (a b : Bool) → a ≡ false → b ≡ false → (a || b) ≡ false
neither a b e f = ap (λ x. x || b) e ∙ f

-- the second of two tests decides where the first fails
pub second : (first next a b : Bool) → first ≡ false → first ≡ a → next ≡ b → next ≡ (a || b)
second first next a b fails e f = f ∙ ap (λ x. x || b) (sym fails ∙ e)

-- a path that isn't empty
pub not_empty : (parts : List (List ℕ)) → is_path parts ≡ true → length parts ≡ 0 → ⊥
not_empty [] e z = absurd (false≢true e)
not_empty (part ∷ more) e z = cc
