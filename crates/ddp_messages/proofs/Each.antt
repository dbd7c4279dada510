-- The turns of the loops that read lists, and what a part's fault says of the whole.
use Rattle.std.proofs.Common.{◌≡◌, ℕ, ◌+◌, ◌<◌, List, [], ◌∷◌, ◌++◌, length, get_or, drop, Option, Some, None, option_map, Err, refl, sym, ap, ◌∙◌, add-one, drop-cons}
use Rattle.std.proofs.lemmas.List.{append_assoc}
use Rattle.serde_json.specs.Data.{Data}
use Rattle.serde_json.specs.View.{view as json_view, items_view}
use Rattle.serde_json.specs.declared.value.Value.{Value as Json}
use Rattle.ddp_messages.specs.Forms.{with_first, each_of}
use Rattle.ddp_messages.specs.Fields.{Gives}
use Rattle.ddp_messages.specs.declared.fault.FieldFault.{FieldFault}
use Rattle.ddp_messages.specs.declared.fault.FieldFault.TheVariants.{Malformed, Memory}

-- what was read so far, in front of the rest
abbrev pub behind : {A : Type 0} → List A → Option (List A) → Option (List A)
behind front rest = option_map (λ more. front ++ more) rest

behind-with_first : {A : Type 0} (front : List A) (a : A) (rest : Option (List A)) → behind front (with_first (Some a) rest) ≡ behind (front ++ a ∷ []) rest
behind-with_first front a None = refl
behind-with_first front a (Some more) = ap Some (sym (append_assoc front (a ∷ []) more))

behind-nil : {A : Type 0} (rest : Option (List A)) → behind [] rest ≡ rest
behind-nil None = refl
behind-nil (Some more) = refl

-- the rest begins with this tree
rest_from : {A : Type 0} (form : Data → Option A) (trees : List Json) (i : ℕ) (tree : Json) → tree ≡ get_or trees i tree → i < length trees
    → each_of form (items_view (drop i trees)) ≡ with_first (form (json_view tree)) (each_of form (items_view (drop (i + 1) trees)))
rest_from form trees i tree is within =
    let more : drop i trees ≡ get_or trees i tree ∷ drop (i + 1) trees = rw (add-one, drop-cons trees i tree) refl in
    ap (λ (ts : List Json). each_of form (items_view ts)) (more ∙ ap (λ (t : Json). t ∷ drop (i + 1) trees) (sym is))

pub none_yet : {A : Type 0} (form : Data → Option A) (trees : List Json) (front : List A) → front ≡ [] → each_of form (items_view trees) ≡ behind front (each_of form (items_view (drop 0 trees)))
none_yet form trees front is = rw is (sym (behind-nil (each_of form (items_view trees))))

pub one_more : {A : Type 0} (form : Data → Option A) (trees : List Json) (i : ℕ) (tree : Json) (a : A) (front new : List A) (all : Option (List A))
    → tree ≡ get_or trees i tree → i < length trees → form (json_view tree) ≡ Some a → new ≡ front ++ a ∷ []
    → all ≡ behind front (each_of form (items_view (drop i trees)))
    → all ≡ behind new (each_of form (items_view (drop (i + 1) trees)))
one_more {A} form trees i tree a front new all is within found pushed so_far =
    let rest : Option (List A) = each_of form (items_view (drop (i + 1) trees)) in
    so_far ∙ ap (behind front) (rest_from form trees i tree is within ∙ ap (λ (o : Option A). with_first o rest) found) ∙ behind-with_first front a rest
    ∙ ap (λ (xs : List A). behind xs rest) (sym pushed)

pub one_fails : {A : Type 0} (form : Data → Option A) (trees : List Json) (i : ℕ) (tree : Json) (front : List A) (all : Option (List A))
    → tree ≡ get_or trees i tree → i < length trees → form (json_view tree) ≡ None
    → all ≡ behind front (each_of form (items_view (drop i trees)))
    → all ≡ None
one_fails {A} form trees i tree front all is within missed so_far =
    so_far ∙ ap (behind front) (rest_from form trees i tree is within ∙ ap (λ (o : Option A). with_first o (each_of form (items_view (drop (i + 1) trees)))) missed)

-- a part that isn't of its form spoils the whole, and want of memory is free
pub fault_passed : {A B C D : Type 0} (f : A → B) (g : C → D) (e : FieldFault) (part : Option B) (whole : Option D) → Gives f (Err e) part → (part ≡ None → whole ≡ None) → Gives g (Err e) whole
fault_passed f g Malformed part whole is passes = passes is
fault_passed f g Memory part whole is passes = tt
