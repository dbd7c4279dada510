-- Lemmas of operands in their order, each once.
use Rattle.std.proofs.Common.{◌≡◌, ℕ, zero, suc, ◌+◌, ◌<◌, ◌||◌, Bool, true, false, cond, List, [], ◌∷◌, ◌++◌, ◌==◌, length, take, get_or, refl, ap, sym, ◌∙◌, ⊎_elim, arith}
use Rattle.std.specs.List.{list_any, HoldsAt, AllByRecursion, dedup, dedup_from}
use Rattle.std.specs.List.Sorted.{IsPermutation, IsSortedBy, IsStrictlySortedBy, IsNonDecreasingBy, IsPartitionPoint}
use Rattle.std.specs.Ordering.{is_lt, is_eq, ordering_reverse, ordering_index}
use Rattle.std.specs.declared.cmp.Ordering.{Ordering}
use Rattle.std.specs.declared.cmp.Ordering.TheVariants.{Less, Equal, Greater}
use Rattle.std.proofs.lemmas.Bool.{false≢true, cases_lt}
use Rattle.std.proofs.lemmas.Bool.Decides.{nat_tests}
use Rattle.std.proofs.lemmas.Cmp.{on_total}
use Rattle.std.proofs.lemmas.List.{take_more, map-append}
use Rattle.std.proofs.lemmas.List.Folds.{list_any_none, list_any_at}
use Rattle.std.proofs.lemmas.List.Kept.{IsStrictlySortedBy-dedup}
use Rattle.std.proofs.lemmas.List.Sorted.{list_any-IsPermutation, searchable_from_sorted}
use Rattle.value_model.specs.Val.{Val, null}
use Rattle.value_model.specs.Order.{compare}
use Rattle.value_model.specs.OrderLaws.{compare_ties, compare_reverse, compare_itself, compare_total}
use Rattle.value_model.specs.TruthLaws.{equal_of}
use Rattle.ejson_value.specs.declared.value.Value.{Value}
use Rattle.ejson_value.specs.declared.value.Value.TheVariants as shape
use Rattle.ejson_value.specs.View.{view, views}
use Rattle.selector_match.specs.Holds.{is_empty}
use Rattle.selector_match.specs.Operands.{picked, IsRising, PassAlike}
use Rattle.selector_match.proofs.Loops.{list_any-map}

-- values compared by what contracts see of them
abbrev pub by_view : Value → Value → Ordering
by_view x y = compare (view x) (view y)

abbrev pub same_view : Value → Value → Bool
same_view x y = is_eq (by_view x y)

pub get-views : (xs : List Value) (k : ℕ) (d : Value) → k < length xs → get_or (views xs) k null ≡ view (get_or xs k d)
get-views [] k d h = absurd (omega (arith, h))
get-views (x ∷ xs) zero d h = refl
get-views (x ∷ xs) (suc k) d h = get-views xs k d (omega (arith, h))

pub length-views : (xs : List Value) → length (views xs) ≡ length xs
length-views [] = refl
length-views (x ∷ xs) = ap suc (length-views xs)

less_than_all : (v : Val) (xs : List Value) → AllByRecursion (λ y. compare v (view y) ≡ Less) xs → (j : ℕ) → j < length (views xs) → compare v (get_or (views xs) j null) ≡ Less
less_than_all v [] all j h = absurd (omega (arith, h))
less_than_all v (x ∷ xs) all zero h = all.0
less_than_all v (x ∷ xs) all (suc j) h = less_than_all v xs all.1 j (omega (arith, h))

rises : (xs : List Value) → IsStrictlySortedBy by_view xs → IsRising (views xs)
unfolding IsStrictlySortedBy
rises [] sorted i j less h = absurd (omega (arith, h))
rises (x ∷ xs) sorted i zero less h = absurd (omega (arith, less))
rises (x ∷ xs) sorted zero (suc j) less h = less_than_all (view x) xs sorted.0 j (omega (arith, h))
rises (x ∷ xs) sorted (suc i) (suc j) less h = rises xs sorted.1 i j (omega (arith, less)) (omega (arith, h))

pub rises-dedup : (xs : List Value) → IsSortedBy (λ x y. is_lt (by_view x y)) xs → IsRising (views (dedup same_view xs))
rises-dedup xs sorted = rises (dedup same_view xs) (IsStrictlySortedBy-dedup (on_total view compare_total) (λ x y. refl) xs sorted)

or_itself : (a b : Bool) → (a || b) ≡ (a || (a || b))
or_itself true b = refl
or_itself false b = refl

module _ (test : Val → Bool) where
  passes-dedup_from : (k : Value) (xs : List Value) → list_any (λ x. test (view x)) (dedup_from same_view k xs) ≡ (test (view k) || list_any (λ x. test (view x)) xs)
  passes-dedup_from k [] = refl
  passes-dedup_from k (x ∷ xs) = by (same_view x k) refl (passes-dedup_from k xs) (passes-dedup_from x xs)
    where
      by : (b : Bool) → same_view x k ≡ b → list_any (λ x. test (view x)) (dedup_from same_view k xs) ≡ (test (view k) || list_any (λ x. test (view x)) xs)
          → list_any (λ x. test (view x)) (dedup_from same_view x xs) ≡ (test (view x) || list_any (λ x. test (view x)) xs)
          → list_any (λ x. test (view x)) (cond b (dedup_from same_view k xs) (k ∷ dedup_from same_view x xs)) ≡ (test (view k) || (test (view x) || list_any (λ x. test (view x)) xs))
      by true same of_k of_x =
          of_k ∙ (or_itself (test (view k)) (list_any (λ x. test (view x)) xs)
          ∙ ap (λ v. test (view k) || (test v || list_any (λ x. test (view x)) xs)) (sym (compare_ties (view x) (view k) (equal_of (by_view x k) same))))
      by false same of_k of_x = ap (λ r. test (view k) || r) of_x

  passes-dedup : (xs : List Value) → list_any (λ x. test (view x)) (dedup same_view xs) ≡ list_any (λ x. test (view x)) xs
  passes-dedup [] = refl
  passes-dedup (x ∷ xs) = passes-dedup_from x xs

pub alike-dedup : (xs ys : List Value) → IsPermutation xs ys → PassAlike (views xs) (views (dedup same_view ys))
alike-dedup xs ys moved test =
    list_any-map test view xs
    ∙ (list_any-IsPermutation (λ x. test (view x)) xs ys moved
    ∙ (sym (passes-dedup test ys)
    ∙ sym (list_any-map test view (dedup same_view ys))))

-- A search by halves.

sorted_from : (xs : List Value) → IsRising (views xs) → IsSortedBy (λ x y. is_lt (by_view x y)) xs
sorted_from xs rising k d low high =
    ap is_lt (compare_reverse (view (get_or xs (k + 1) d)) (view (get_or xs k d))
    ∙ ap ordering_reverse (ap (λ v. compare v (view (get_or xs (k + 1) d))) (sym (get-views xs k d (omega (arith, high))))
    ∙ (ap (λ v. compare (get_or (views xs) k null) v) (sym (get-views xs (k + 1) d high))
    ∙ rising k (k + 1) (omega arith) (omega (arith, high, length-views xs)))))

not_less : (o p : Ordering) → o ≡ Less → p ≡ ordering_reverse o → is_eq p ≡ false
not_less o p is e = ap is_eq (e ∙ ap ordering_reverse is)

not_greater : (o p : Ordering) → o ≡ Greater → p ≡ ordering_reverse o → is_eq p ≡ false
not_greater o p is e = ap is_eq (e ∙ ap ordering_reverse is)

module _ (xs : List Value) (c : Val) (i : ℕ) where
  pub found : i < length xs → HoldsAt (λ y. compare (view y) c ≡ Equal) xs i → get_or (views xs) i null ≡ c
  found h at = get-views xs i shape.Null h ∙ compare_ties (view (get_or xs i shape.Null)) c (at shape.Null)

  pub absent : IsRising (views xs) → (IsNonDecreasingBy (λ y. ordering_index (compare (view y) c)) xs → IsPartitionPoint (λ y. compare (view y) c ≡ Less) (λ y. compare (view y) c ≡ Greater) xs i) → list_any (λ v. is_eq (compare c v)) (views xs) ≡ false
  absent rising point =
      let parted = point (searchable_from_sorted compare_total view xs c (sorted_from xs rising)) in
      list_any-map (λ v. is_eq (compare c v)) view xs
      ∙ list_any_none (λ x. is_eq (compare c (view x))) xs (λ k d h.
      ⊎_elim (λ less. not_less (compare (view (get_or xs k d)) c) (compare c (view (get_or xs k d))) (parted.0 k d (omega arith) less) (compare_reverse c (view (get_or xs k d))))
      (λ le. not_greater (compare (view (get_or xs k d)) c) (compare c (view (get_or xs k d))) (parted.1 k d le h) (compare_reverse c (view (get_or xs k d))))
      (cases_lt k i))

-- what a search finds, of a list that passes a test alike
pub is_found : (vs ws : List Val) (c : Val) (k : ℕ) → PassAlike vs ws → k < length ws → get_or ws k null ≡ c → true ≡ list_any (λ v. is_eq (compare c v)) vs
is_found vs ws c k alike h is =
    sym (alike (λ v. is_eq (compare c v)) ∙ list_any_at (λ v. is_eq (compare c v)) ws k null h (ap (λ v. is_eq (compare c v)) is ∙ ap is_eq (compare_itself c)))

pub not_absent : (vs ws : List Val) (k : ℕ) (c : Val) → PassAlike vs ws → k < length vs → get_or vs k null ≡ c → list_any (λ v. is_eq (compare c v)) ws ≡ false → ⊥
not_absent vs ws k c alike h is none =
    false≢true (sym none ∙ (sym (alike (λ v. is_eq (compare c v))) ∙ list_any_at (λ v. is_eq (compare c v)) vs k null h (ap (λ v. is_eq (compare c v)) is ∙ ap is_eq (compare_itself c))))

pub picked-append : (vs : List Val) (places : List ℕ) (k : ℕ) → picked vs (places ++ k ∷ []) ≡ picked vs places ++ get_or vs k null ∷ []
picked-append vs places k = map-append (λ j. get_or vs j null) places (k ∷ [])

pub none_picked : (vs : List Val) (places : List ℕ) → (length places == 0) ≡ is_empty (picked vs places)
none_picked vs [] = refl
none_picked vs (k ∷ ks) = grind (arith, nat_tests)

-- the values in front, by one more
pub views-more : (xs : List Value) (i : ℕ) (x : Value) → i < length xs → x ≡ get_or xs i x → views (take i xs) ++ view x ∷ [] ≡ views (take (i + 1) xs)
views-more xs i x h is =
    ap (λ y. views (take i xs) ++ view y ∷ []) is
    ∙ sym (ap views (take_more xs i x h) ∙ map-append view (take i xs) (get_or xs i x ∷ []))
