-- Paths and their beginnings.
use Rattle.std.specs.List.{list_any}
use Rattle.std.specs.Prelude.{bytes_eq, if◌then◌else◌, not, map}
use Rattle.std.specs.Ordering.{is_eq, ordering_then, match_ordering}
use Rattle.std.specs.declared.cmp.Ordering.{Ordering}
use Rattle.std.specs.declared.cmp.Ordering.TheVariants.{Less, Equal, Greater}
use Rattle.std.specs.BTreeSet.{insert_key}
use Rattle.std.proofs.Common.{◌≡◌, ℕ, zero, suc, ◌+◌, ◌≤◌, ◌<◌, Bool, true, false, ◌||◌, ◌&&◌, List, [], ◌∷◌, ◌++◌, length, take, Option, None, Some, refl, ap, sym, ◌∙◌, arith, subst}
use Rattle.std.proofs.lemmas.Map.Lookups.{exact_bytes}
use Rattle.std.proofs.lemmas.Cmp.{nat_list_cmp_total, lists_total}
use Rattle.std.proofs.lemmas.Slice.Eq.{bytes_eq-Decides}
use Rattle.std.specs.Cmp.{tied_itself}
use Rattle.value_model.specs.Val.{Val}
use Rattle.value_model.specs.TruthLaws.{both_true, equal_of}
use Rattle.value_model.specs.OrderLaws.{then_ties}
use Rattle.value_model.specs.Order.{text_cmp}
use Rattle.value_model.specs.Size.{is_name}
use Rattle.value_model.specs.Branches.{path_of}
use Rattle.app_model.specs.Fields.{APath, path_cmp, SameTests, says, begins_with_id, leads_to, can_follow, path_behind, next_path, Joins}

pub only_same : (p q : APath) → path_cmp p q ≡ Equal → p ≡ q
only_same [] [] e = refl
only_same [] (b ∷ q) e = cc
only_same (a ∷ p) [] e = cc
only_same (a ∷ p) (b ∷ q) e =
    let both = then_ties (text_cmp a b) (path_cmp p q) e in
    let first : a ≡ b = exact_bytes a b both.0 in
    let rest : p ≡ q = only_same p q both.1 in
    ap (λ x. x ∷ p) first ∙ ap (λ r. b ∷ r) rest

abbrev pub same_path : APath → APath → Bool
same_path p q = is_eq (path_cmp p q)

same_itself : (p : APath) → same_path p p ≡ true
same_itself p = ap is_eq (tied_itself (lists_total nat_list_cmp_total) p)

-- a beginning leads to the path
leads_on : (p q : APath) (n : ℕ) → take n q ≡ p → leads_to p q ≡ true
leads_on [] q n e = refl
leads_on (a ∷ p) [] zero e = cc
leads_on (a ∷ p) [] (suc n) e = cc
leads_on (a ∷ p) (b ∷ q) zero e = cc
leads_on (a ∷ p) (b ∷ q) (suc n) e =
    let same : b ≡ a = cc in
    let rest : take n q ≡ p = cc in
    ap (λ t. t && leads_to p q) ((bytes_eq-Decides a b).1 (sym same)) ∙ leads_on p q n rest

-- and what leads to the path is a beginning of it
leads_from : (p q : APath) → leads_to p q ≡ true → (take (length p) q ≡ p) × (length p ≤ length q)
leads_from [] q e = (refl, omega arith)
leads_from (a ∷ p) [] e = cc
leads_from (a ∷ p) (b ∷ q) e =
    let both = both_true (is_name a b) (leads_to p q) e in
    let rest = leads_from p q both.1 in
    let same : a ≡ b = (bytes_eq-Decides a b).0 both.0 in
    (ap (λ x. x ∷ take (length p) q) (sym same) ∙ ap (λ r. a ∷ r) rest.0, omega (arith, rest.1))

or_true : (a b : Bool) → a ≡ true → (a || b) ≡ true
or_true a b e = ap (λ x. x || b) e

or_right : (a b : Bool) → b ≡ true → (a || b) ≡ true
or_right true b e = refl
or_right false b e = e

-- a beginning that is among the paths
pub found_prefix : (ps : List APath) (q : APath) (n : ℕ) → list_any (λ p. same_path (take n q) p) ps ≡ true → list_any (λ p. leads_to p q) ps ≡ true
found_prefix [] q n e = e
found_prefix (p ∷ ps) q n e =
    elim (same_path (take n q) p) as (λ b. same_path (take n q) p ≡ b → (b || list_any (λ p. same_path (take n q) p) ps) ≡ true → (leads_to p q || list_any (λ p. leads_to p q) ps) ≡ true) [
      | true ↦ λ here any. or_true (leads_to p q) _ (leads_on p q n (only_same (take n q) p (equal_of _ here)))
      | false ↦ λ here any. or_right (leads_to p q) _ (found_prefix ps q n any)
    ] refl e

abbrev pub NoneBelow : List APath → APath → ℕ → Type 0
NoneBelow ps q end = (n : ℕ) → n < end → list_any (λ p. same_path (take n q) p) ps ≡ false

neither : (a b : Bool) → (a || b) ≡ false → (a ≡ false) × (b ≡ false)
neither true b e = cc
neither false b e = (refl, e)

-- no beginning is among the paths
pub no_prefix : (ps : List APath) (q : APath) → NoneBelow ps q (length q + 1) → list_any (λ p. leads_to p q) ps ≡ false
no_prefix [] q none = refl
no_prefix (p ∷ ps) q none =
    let rest = no_prefix ps q (λ n below. (neither (same_path (take n q) p) _ (none n below)).1) in
    elim (leads_to p q) as (λ b. leads_to p q ≡ b → (b || list_any (λ p. leads_to p q) ps) ≡ false) [
      | true ↦ λ leads.
          let start = leads_from p q leads in
          let within : length p < length q + 1 = omega (arith, start.1) in
          let apart = (neither (same_path (take (length p) q) p) _ (none (length p) within)).0 in
          let here : same_path (take (length p) q) p ≡ true = ap (λ x. same_path x p) start.0 ∙ same_itself p in
          cc
      | false ↦ λ leads. rest
    ] refl

swapped : (a b c : Bool) → (a || (b || c)) ≡ (b || (a || c))
swapped true true c = refl
swapped true false c = refl
swapped false b c = refl

again : (a b : Bool) → (a || b) ≡ (a || (a || b))
again true b = refl
again false b = refl

pub any_behind : (test : APath → Bool) (ps : List APath) (q : APath) → list_any test (ps ++ q ∷ []) ≡ (test q || list_any test ps)
any_behind test [] q = refl
any_behind test (p ∷ ps) q = ap (λ b. test p || b) (any_behind test ps q) ∙ swapped (test p) (test q) (list_any test ps)

pub joined : (old new qs : List APath) (q : APath) → Joins old new q → SameTests old qs → SameTests new (qs ++ q ∷ [])
joined old new qs q joins same test = joins test ∙ (ap (λ b. test q || b) (same test) ∙ sym (any_behind test qs q))

pub next_path_alike : (including : Bool) (ps qs : List APath) (name : List ℕ) (v : Val) → SameTests ps qs → next_path including ps name v ≡ next_path including qs name v
next_path_alike including ps qs name v same =
    elim (says including v) as (λ b. (if b then path_behind ps (path_of name) else None) ≡ (if b then path_behind qs (path_of name) else None)) [
      | true ↦ elim (path_of name) as (λ o. path_behind ps o ≡ path_behind qs o) [
        | None ↦ refl
        | Some q ↦ ap (λ b. if not (begins_with_id q) && not b then Some q else None) (same (λ p. leads_to p q))
      ]
      | false ↦ refl
    ]

-- a path among others, and one that is put among them
module _ {X : Type 0} (path : X → APath) where
  pub among : (q : APath) (xs : List X) → list_any (λ x. same_path q (path x)) xs ≡ list_any (λ p. same_path q p) (map path xs)
  among q [] = refl
  among q (x ∷ xs) = ap (λ b. same_path q (path x) || b) (among q xs)

  pub put_among : (xs : List X) (x : X) (test : APath → Bool) → list_any test (map path (insert_key (λ a b. path_cmp (path a) (path b)) xs x)) ≡ (test (path x) || list_any test (map path xs))
  put_among [] x test = refl
  put_among (y ∷ xs) x test =
      elim (path_cmp (path x) (path y))
      as (λ o. path_cmp (path x) (path y) ≡ o → list_any test (map path (match_ordering o (x ∷ y ∷ xs) (y ∷ xs) (y ∷ insert_key (λ a b. path_cmp (path a) (path b)) xs x))) ≡ (test (path x) || (test (path y) || list_any test (map path xs)))) [
        | Less ↦ λ e. refl
        | Equal ↦ λ e. again (test (path y)) (list_any test (map path xs)) ∙ ap (λ p. test p || (test (path y) || list_any test (map path xs))) (sym (only_same (path x) (path y) e))
        | Greater ↦ λ e. ap (λ b. test (path y) || b) (put_among xs x test) ∙ swapped (test (path y)) (test (path x)) (list_any test (map path xs))
      ] refl
