-- Laws of the keys that simulations hold.
use Rattle.std.specs.Prelude.{◌≡◌, ◌≢◌, ℕ, Bool, true, false, cond, not, ◌&&◌, ◌||◌, List, [], ◌∷◌, filter, Option, Some, None, is_some, IfSome}
use Rattle.std.specs.Prelude.{option_and_then, unwrap_or, refl}
use Rattle.std.specs.List.{list_any, list_all, AllByRecursion}
use Rattle.std.specs.List.Sorted.{IsStrictlySortedBy}
use Rattle.std.specs.Set.{remove_key}
use Rattle.std.specs.declared.cmp.Ordering.{Ordering}
use Rattle.std.specs.declared.cmp.Ordering.TheVariants.{Less, Equal, Greater}
use Rattle.std.specs.Ordering.{nat_cmp, eq_by_cmp, is_eq, match_ordering}
use Rattle.std.specs.BTreeMap.{insert_entry, is_at}
use Rattle.std.specs.BTreeSet.{insert_key}
use Rattle.std.specs.Cmp.{tied_itself}
use Rattle.std.proofs.Common.{sym, ap, ◌∙◌, subst, true≢false}
use Rattle.std.proofs.lemmas.Cmp.{nat_cmp_total, eq_by_cmp_equiv}
use Rattle.std.proofs.lemmas.Map.Lookups.{exact_unsigned}
use Rattle.std.proofs.lemmas.Map.Keys.{sorted_head, sorted_tail}
use Rattle.map_model.specs.Maps.{at, IsSorted, IsKeyOrder}
use Rattle.map_model.specs.MapLaws.{at-put, sorted-put, at-filter_map_entries, sorted-filter_map_entries, key_is, eq_by_cmp-self}
use Rattle.view_model.specs.Pending.{Pending, is_among, with_number, without_numbers, unless_none, are_all_among, holders, is_held, held_by, let_go}

pub number_order : IsKeyOrder nat_cmp
number_order = record { total = nat_cmp_total; exact = exact_unsigned }

-- ---- sets of numbers

-- a number that is there needs no second place
pub with_number-again : (hs : List ℕ) (n : ℕ) → with_number (with_number hs n) n ≡ with_number hs n
with_number-again [] n = ap (λ o. match_ordering o (n ∷ n ∷ []) (n ∷ []) (n ∷ n ∷ [])) (tied_itself nat_cmp_total n)
with_number-again (h ∷ hs) n =
    let rest = with_number-again hs n in
    elim (nat_cmp n h) as
    (λ o. nat_cmp n h ≡ o → with_number (match_ordering o (n ∷ h ∷ hs) (h ∷ hs) (h ∷ with_number hs n)) n
    ≡ match_ordering o (n ∷ h ∷ hs) (h ∷ hs) (h ∷ with_number hs n)) [
      | Less ↦ λ e. ap (λ o. match_ordering o (n ∷ n ∷ h ∷ hs) (n ∷ h ∷ hs) (n ∷ with_number (h ∷ hs) n)) (tied_itself nat_cmp_total n)
      | Equal ↦ λ e. ap (λ o. match_ordering o (n ∷ h ∷ hs) (h ∷ hs) (h ∷ with_number hs n)) e
      | Greater ↦ λ e. ap (λ o. match_ordering o (n ∷ h ∷ with_number hs n) (h ∷ with_number hs n) (h ∷ with_number (with_number hs n) n)) e
          ∙ ap (λ r. h ∷ r) rest
    ] refl

-- one of a list's tests
pub test_same : (n h : ℕ) → is_among (n ∷ []) h ≡ is_at (nat_cmp n) h
test_same n h = elim (eq_by_cmp nat_cmp h n) as (λ b. (b || false) ≡ b) [ true ↦ refl | false ↦ refl ] ∙ (eq_by_cmp_equiv nat_cmp_total).symm h n

above_stays : (n : ℕ) (hs : List ℕ) → AllByRecursion (λ h. nat_cmp n h ≡ Less) hs → without_numbers (n ∷ []) hs ≡ hs
above_stays n [] up = refl
above_stays n (h ∷ hs) up =
    ap (λ b. cond (not b) (h ∷ without_numbers (n ∷ []) hs) (without_numbers (n ∷ []) hs)) (test_same n h ∙ ap is_eq up.0)
    ∙ ap (λ r. h ∷ r) (above_stays n hs up.1)

-- to take one number out
pub without_one : (n : ℕ) (hs : List ℕ) → IsStrictlySortedBy nat_cmp hs → remove_key (is_at (nat_cmp n)) hs ≡ without_numbers (n ∷ []) hs
without_one n [] s = refl
without_one n (h ∷ hs) s =
    let rest = without_one n hs (sorted_tail nat_cmp h hs s) in
    elim (is_at (nat_cmp n) h) as
    (λ b. is_at (nat_cmp n) h ≡ b →
    cond b hs (h ∷ remove_key (is_at (nat_cmp n)) hs) ≡ cond (not b) (h ∷ without_numbers (n ∷ []) hs) (without_numbers (n ∷ []) hs)) [
      | true ↦ λ e. sym
          (above_stays n hs (subst (λ m. AllByRecursion (λ q. nat_cmp m q ≡ Less) hs) (sym (key_is number_order n h e)) (sorted_head nat_cmp h hs s)))
      | false ↦ λ e. ap (λ r. h ∷ r) rest
    ] refl
    ∙ ap (λ b. cond (not b) (h ∷ without_numbers (n ∷ []) hs) (without_numbers (n ∷ []) hs)) (sym (test_same n h))

-- what isn't there can't go
pub without_absent : (n : ℕ) (hs : List ℕ) → is_among hs n ≡ false → without_numbers (n ∷ []) hs ≡ hs
without_absent n [] e = refl
without_absent n (h ∷ hs) e =
    elim (eq_by_cmp nat_cmp n h) as (λ b. eq_by_cmp nat_cmp n h ≡ b → (b || is_among hs n) ≡ false → without_numbers (n ∷ []) (h ∷ hs) ≡ h ∷ hs) [
      | true ↦ λ t no. cc no
      | false ↦ λ t no. ap (λ b. cond (not b) (h ∷ without_numbers (n ∷ []) hs) (without_numbers (n ∷ []) hs)) (test_same n h ∙ t)
          ∙ ap (λ r. h ∷ r) (without_absent n hs no)
    ] refl e

-- some numbers and then one more
pub without_more : (ns : List ℕ) (n : ℕ) (hs : List ℕ) → without_numbers (n ∷ []) (without_numbers ns hs) ≡ without_numbers (n ∷ ns) hs
without_more ns n [] = refl
without_more ns n (h ∷ hs) =
    let rest = without_more ns n hs in
    elim (is_among ns h) as
    (λ a. without_numbers (n ∷ []) (cond (not a) (h ∷ without_numbers ns hs) (without_numbers ns hs))
    ≡ cond (not (eq_by_cmp nat_cmp h n || a)) (h ∷ without_numbers (n ∷ ns) hs) (without_numbers (n ∷ ns) hs)) [
      | true ↦ rest
          ∙ elim (eq_by_cmp nat_cmp h n) as
          (λ b. without_numbers (n ∷ ns) hs ≡ cond (not (b || true)) (h ∷ without_numbers (n ∷ ns) hs) (without_numbers (n ∷ ns) hs))
          [ true ↦ refl | false ↦ refl ]
      | false ↦ ap (λ r. cond (not (eq_by_cmp nat_cmp h n || false)) (h ∷ r) r) rest
    ]

-- nothing is left exactly where all go
pub none_left : (ns hs : List ℕ) → is_some (unless_none (without_numbers ns hs)) ≡ not (are_all_among ns hs)
none_left ns [] = refl
none_left ns (h ∷ hs) =
    let rest = none_left ns hs in
    elim (is_among ns h) as
    (λ a. is_some (unless_none (cond (not a) (h ∷ without_numbers ns hs) (without_numbers ns hs))) ≡ not (a && are_all_among ns hs))
    [ true ↦ rest | false ↦ refl ]

-- ---- held keys

module _ {K : Type 0} {R : K → K → Ordering} (o : IsKeyOrder R) where
  pub sorted-held_by : (n : ℕ) (ks : List K) (pending : Pending K) → IsSorted R pending → IsSorted R (held_by R n ks pending)
  sorted-held_by n [] pending s = s
  sorted-held_by n (k ∷ ks) pending s = sorted-held_by n ks (insert_entry R pending k (with_number (holders R pending k) n)) (sorted-put o pending k _ s)

  pub at-held_by : (n : ℕ) (ks : List K) (pending : Pending K) (q : K) →
      at R (held_by R n ks pending) q ≡ cond (list_any (eq_by_cmp R q) ks) (Some (with_number (holders R pending q) n)) (at R pending q)
  at-held_by n [] pending q = refl
  at-held_by n (k ∷ ks) pending q =
      let next = insert_entry R pending k (with_number (holders R pending k) n) in
      at-held_by n ks next q
      ∙ ap (λ w. cond (list_any (eq_by_cmp R q) ks) (Some (with_number (unwrap_or w []) n)) w) (at-put o pending k (with_number (holders R pending k) n) q)
      ∙ elim (eq_by_cmp R q k) as (λ b. eq_by_cmp R q k ≡ b →
      cond (list_any (eq_by_cmp R q) ks) (Some (with_number (unwrap_or (cond b (Some (with_number (holders R pending k) n)) (at R pending q)) []) n))
      (cond b (Some (with_number (holders R pending k) n)) (at R pending q))
      ≡ cond (b || list_any (eq_by_cmp R q) ks) (Some (with_number (holders R pending q) n)) (at R pending q)) [
        | true ↦ λ t.
            elim (list_any (eq_by_cmp R q) ks) as
            (λ c. cond c (Some (with_number (with_number (holders R pending k) n) n)) (Some (with_number (holders R pending k) n))
            ≡ Some (with_number (holders R pending k) n)) [
              | true ↦ ap Some (with_number-again (holders R pending k) n)
              | false ↦ refl
            ]
            ∙ ap (λ x. Some (with_number (holders R pending x) n)) (sym (key_is o q k t))
        | false ↦ λ t. refl
      ] refl

  pub sorted-let_go : (ns : List ℕ) (pending : Pending K) → IsSorted R pending → IsSorted R (let_go ns pending)
  sorted-let_go ns pending s = sorted-filter_map_entries R (λ k hs. unless_none (without_numbers ns hs)) pending s

  pub at-let_go : (ns : List ℕ) (pending : Pending K) (q : K) → IsSorted R pending →
      at R (let_go ns pending) q ≡ option_and_then (λ hs. unless_none (without_numbers ns hs)) (at R pending q)
  at-let_go ns pending q s = at-filter_map_entries o (λ k hs. unless_none (without_numbers ns hs)) pending q s

  -- what is held afterwards was held
  pub still_held : (ns : List ℕ) (pending : Pending K) (q : K) → IsSorted R pending → is_held R pending q ≡ false → is_held R (let_go ns pending) q ≡ false
  still_held ns pending q s free = ap is_some (at-let_go ns pending q s) ∙ none (at R pending q) free
    where
      none : (w : Option (List ℕ)) → is_some w ≡ false → is_some (option_and_then (λ hs. unless_none (without_numbers ns hs)) w) ≡ false
      none None e = refl
      none (Some hs) e = cc e
