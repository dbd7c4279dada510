-- Ids that are entered in their order.
use Rattle.std.specs.Prelude.{◌≡◌, ℕ, Bool, true, cond, List, [], ◌∷◌, ◌++◌, filter, refl}
use Rattle.std.specs.Map.{keys_of}
use Rattle.std.specs.List.Sorted.{IsStrictlySortedBy}
use Rattle.std.specs.declared.cmp.Ordering.{Ordering}
use Rattle.std.specs.Ordering.{match_ordering}
use Rattle.std.specs.BTreeSet.{insert_key}
use Rattle.std.proofs.Common.{sym, ap, ◌∙◌, subst}
use Rattle.std.proofs.lemmas.List.{append_assoc}
use Rattle.map_model.specs.Orders.{IsAbove}
use Rattle.map_model.specs.OrderLaws.{IsAbove-from_sorted}
use Rattle.value_model.specs.Order.{text_cmp}
use Rattle.ejson_value.specs.Key.{name_order}

-- a key above all others goes last
key_last : {K : Type 0} (R : K → K → Ordering) (ks : List K) (k : K) → IsAbove R k ks → insert_key R ks k ≡ ks ++ k ∷ []
key_last R [] k h = refl
key_last R (x ∷ ks) k h = ap (λ r. match_ordering r (k ∷ x ∷ ks) (x ∷ ks) (x ∷ insert_key R ks k)) h.0 ∙ ap (λ rest. x ∷ rest) (key_last R ks k h.1)

-- the next of all ids is entered behind those before it
pub enter_next : (ids : List (List ℕ)) (id : List ℕ) (rest all : List (List ℕ)) → IsStrictlySortedBy text_cmp all → ids ++ id ∷ rest ≡ all → insert_key text_cmp ids id ++ rest ≡ all
enter_next ids id rest all s is =
    ap (λ ks. ks ++ rest) (key_last text_cmp ids id (IsAbove-from_sorted name_order.total ids id rest (subst (IsStrictlySortedBy text_cmp) (sym is) s)))
    ∙ append_assoc ids (id ∷ []) rest ∙ is

-- the next of those that pass is entered behind those before it
pub enter_some : {X : Type 0} (p : List ℕ × X → Bool) (ids : List (List ℕ)) (id : List ℕ) (x : X) (rest entries all : List (List ℕ × X)) → IsStrictlySortedBy text_cmp (keys_of (filter p all)) → entries ≡ (id, x) ∷ rest → p (id, x) ≡ true →
    ids ++ keys_of (filter p entries) ≡ keys_of (filter p all) → insert_key text_cmp ids id ++ keys_of (filter p rest) ≡ keys_of (filter p all)
enter_some p ids id x rest entries all s steps passes is =
    enter_next ids id (keys_of (filter p rest)) (keys_of (filter p all)) s
    (sym (ap (λ es. ids ++ keys_of (filter p es)) steps ∙ ap (λ b. ids ++ keys_of (cond b ((id, x) ∷ filter p rest) (filter p rest))) passes) ∙ is)
