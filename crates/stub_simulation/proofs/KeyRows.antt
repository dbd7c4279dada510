-- A key among rising keys: where it stands, and where it is put.
use Rattle.std.proofs.Common.{◌≡◌, ℕ, zero, suc, ◌+◌, ◌<◌, ◌≤◌, Bool, true, false, ◌||◌, List, [], ◌∷◌, ◌++◌, length, get_or, take, drop, Result, Ok, Err, IfOk, IfErr, refl, ap, sym, subst, ◌∙◌, arith, add-one}
use Rattle.std.specs.Prelude.{is_ok, OnOk, OnErr}
use Rattle.std.specs.List.{AllByRecursion, insert, list_any}
use Rattle.std.specs.List.Sorted.{IsStrictlySortedBy, IsSortedBy, IsSearchInRange, IsBinarySearchResult}
use Rattle.std.specs.declared.cmp.Ordering.TheVariants.{Less, Equal, Greater}
use Rattle.std.specs.Ordering.{eq_by_cmp, is_eq, is_lt, match_ordering, ordering_reverse}
use Rattle.std.specs.Cmp.{tied_itself}
use Rattle.std.specs.Map.{keys_of}
use Rattle.std.specs.BTreeMap.{insert_entry}
use Rattle.std.specs.BTreeSet.{insert_key}
use Rattle.std.proofs.Math.Seq.{drop-cons}
use Rattle.std.proofs.lemmas.List.{append_assoc}
use Rattle.std.proofs.lemmas.Map.Keys.{sorted_head, sorted_tail}
use Rattle.std.proofs.lemmas.List.Sorted.{searchable_from_sorted}
use Rattle.map_model.specs.Orders.{IsAbove}
use Rattle.map_model.specs.OrderLaws.{IsAbove-from_sorted}
use Rattle.map_model.specs.MapLaws.{sorted-put}
use Rattle.ejson_value.specs.declared.key.Key.{Key}
use Rattle.ejson_value.specs.Key.{key_cmp, key_order}

-- ---- a set as a map to nothing

pub bare : List Key → List (Key × Unit {0})
bare [] = []
bare (k ∷ ks) = (k, tt) ∷ bare ks

pub bare_keys : (ks : List Key) → keys_of (bare ks) ≡ ks
unfolding bare
bare_keys [] = refl
bare_keys (k ∷ ks) = ap (λ rest. k ∷ rest) (bare_keys ks)

pub bare_put : (ks : List Key) (k : Key) → insert_entry key_cmp (bare ks) k tt ≡ bare (insert_key key_cmp ks k)
unfolding bare
bare_put [] k = refl
bare_put (x ∷ xs) k =
    let rest = bare_put xs k in
    elim (key_cmp k x) as (λ o. match_ordering o ((k, tt) ∷ (x, tt) ∷ bare xs) ((x, tt) ∷ bare xs) ((x, tt) ∷ insert_entry key_cmp (bare xs) k tt) ≡ bare (match_ordering o (k ∷ x ∷ xs) (x ∷ xs) (x ∷ insert_key key_cmp xs k))) [
      | Less ↦ refl
      | Equal ↦ refl
      | Greater ↦ ap (λ r. (x, tt) ∷ r) rest
    ]

pub sorted_put : (ks : List Key) (k : Key) → IsStrictlySortedBy key_cmp ks → IsStrictlySortedBy key_cmp (insert_key key_cmp ks k)
sorted_put ks k s =
    subst (IsStrictlySortedBy key_cmp) (ap keys_of (bare_put ks k) ∙ bare_keys (insert_key key_cmp ks k))
    (sorted-put key_order (bare ks) k tt (subst (IsStrictlySortedBy key_cmp) (sym (bare_keys ks)) s))

-- a set stays rising, whether a key was put or not
pub stays_rising : {A E : Type 0} (r : Result A E) (ks ks' : List Key) (k : Key) → IsStrictlySortedBy key_cmp ks → OnOk r (ks' ≡ insert_key key_cmp ks k) → OnErr r (ks' ≡ ks) → IsStrictlySortedBy key_cmp ks'
stays_rising (Ok a) ks ks' k s made same = subst (IsStrictlySortedBy key_cmp) (sym made) (sorted_put ks k s)
stays_rising (Err e) ks ks' k s made same = subst (IsStrictlySortedBy key_cmp) (sym same) s

-- ---- the place of a key

behind : (x k : Key) → key_cmp x k ≡ Less → key_cmp k x ≡ Greater
behind x k less = key_order.total.antisymm k x ∙ ap ordering_reverse less

before : (x k : Key) → key_cmp x k ≡ Greater → key_cmp k x ≡ Less
before x k more = key_order.total.antisymm k x ∙ ap ordering_reverse more

less_at : (x : Key) (ks : List Key) (i : ℕ) (d : Key) → AllByRecursion (λ q. key_cmp x q ≡ Less) ks → i < length ks → key_cmp x (get_or ks i d) ≡ Less
less_at x [] i d h lt = absurd (omega (arith, lt))
less_at x (y ∷ ks) zero d h lt = h.0
less_at x (y ∷ ks) (suc i) d h lt = let lt' : i < length ks = omega (arith, lt) in less_at x ks i d h.1 lt'

module _ (key : Key) where
  same_key : (x : Key) → key_cmp x key ≡ Equal → key_cmp key x ≡ Equal
  same_key x h = ap (key_cmp key) (key_order.exact x key h) ∙ tied_itself key_order.total key

  -- the first key is before the one at a later place
  past_first : (x : Key) (ks : List Key) (i : ℕ) → IsStrictlySortedBy key_cmp (x ∷ ks) → i < length ks → key_cmp (get_or ks i key) key ≡ Equal → key_cmp key x ≡ Greater
  past_first x ks i s lt h = behind x key (subst (λ q. key_cmp x q ≡ Less) (key_order.exact (get_or ks i key) key h) (less_at x ks i key (sorted_head key_cmp _ _ s) lt))

  found_put : (ks : List Key) (i : ℕ) → i < length ks → IsStrictlySortedBy key_cmp ks → key_cmp (get_or ks i key) key ≡ Equal → insert_key key_cmp ks key ≡ ks
  found_put [] i lt s h = absurd (omega (arith, lt))
  found_put (x ∷ ks) zero lt s h = ap (λ o. match_ordering o (key ∷ x ∷ ks) (x ∷ ks) (x ∷ insert_key key_cmp ks key)) (same_key x h)
  found_put (x ∷ ks) (suc i) lt s h =
      let lt' : i < length ks = omega (arith, lt) in
      ap (λ o. match_ordering o (key ∷ x ∷ ks) (x ∷ ks) (x ∷ insert_key key_cmp ks key)) (past_first x ks i s lt' h)
      ∙ ap (λ rest. x ∷ rest) (found_put ks i lt' (sorted_tail key_cmp _ _ s) h)

  later : (b : Bool) {c : Bool} → c ≡ true → (b || c) ≡ true
  later true e = refl
  later false e = e

  found_any : (ks : List Key) (i : ℕ) → i < length ks → key_cmp (get_or ks i key) key ≡ Equal → list_any (eq_by_cmp key_cmp key) ks ≡ true
  found_any [] i lt h = absurd (omega (arith, lt))
  found_any (x ∷ ks) zero lt h = ap (λ o. is_eq o || list_any (eq_by_cmp key_cmp key) ks) (same_key x h)
  found_any (x ∷ ks) (suc i) lt h = let lt' : i < length ks = omega (arith, lt) in later (eq_by_cmp key_cmp key x) (found_any ks i lt' h)

  -- ---- the gap for a key

  below_put : (ks : List Key) → AllByRecursion (λ q. key_cmp key q ≡ Less) ks → insert_key key_cmp ks key ≡ key ∷ ks
  below_put [] b = refl
  below_put (x ∷ ks) b = ap (λ o. match_ordering o (key ∷ x ∷ ks) (x ∷ ks) (x ∷ insert_key key_cmp ks key)) b.0

  below_any : (ks : List Key) → AllByRecursion (λ q. key_cmp key q ≡ Less) ks → list_any (eq_by_cmp key_cmp key) ks ≡ false
  below_any [] b = refl
  below_any (x ∷ ks) b = ap (λ o. is_eq o || list_any (eq_by_cmp key_cmp key) ks) b.0 ∙ below_any ks b.1

  gap_put : (ks : List Key) (i : ℕ) → IsAbove key_cmp key (take i ks) → AllByRecursion (λ q. key_cmp key q ≡ Less) (drop i ks) → insert_key key_cmp ks key ≡ insert ks i key
  gap_put ks zero a b = below_put ks b
  gap_put [] (suc i) a b = refl
  gap_put (x ∷ ks) (suc i) a b =
      ap (λ o. match_ordering o (key ∷ x ∷ ks) (x ∷ ks) (x ∷ insert_key key_cmp ks key)) a.0 ∙ ap (λ rest. x ∷ rest) (gap_put ks i a.1 b)

  gap_any : (ks : List Key) (i : ℕ) → IsAbove key_cmp key (take i ks) → AllByRecursion (λ q. key_cmp key q ≡ Less) (drop i ks) → list_any (eq_by_cmp key_cmp key) ks ≡ false
  gap_any ks zero a b = below_any ks b
  gap_any [] (suc i) a b = refl
  gap_any (x ∷ ks) (suc i) a b = ap (λ o. is_eq o || list_any (eq_by_cmp key_cmp key) ks) a.0 ∙ gap_any ks i a.1 b

  above : (ks : List Key) (i : ℕ) → i ≤ length ks → ((k : ℕ) (d : Key) → k < i → key_cmp (get_or ks k d) key ≡ Less) → IsAbove key_cmp key (take i ks)
  above ks zero le h = tt
  above [] (suc i) le h = absurd (omega (arith, le))
  above (x ∷ ks) (suc i) le h = (behind x key (h zero x (omega arith)), above ks i (omega (arith, le)) (λ k d lt. h (suc k) d (omega (arith, lt))))

  below : (ks : List Key) (i : ℕ) → ((k : ℕ) (d : Key) → i ≤ k → k < length ks → key_cmp (get_or ks k d) key ≡ Greater) → AllByRecursion (λ q. key_cmp key q ≡ Less) (drop i ks)
  below [] zero h = tt
  below [] (suc i) h = tt
  below (x ∷ ks) zero h = (before x key (h zero x (omega arith) (omega arith)), below ks zero (λ k d le lt. h (suc k) d (omega arith) (omega (arith, lt))))
  below (x ∷ ks) (suc i) h = below ks i (λ k d le lt. h (suc k) d (omega (arith, le)) (omega (arith, lt)))

  next_before : (ks : List Key) (k : ℕ) (d : Key) → IsStrictlySortedBy key_cmp ks → suc k < length ks → is_lt (key_cmp (get_or ks (suc k) d) (get_or ks k d)) ≡ false
  next_before [] k d s lt = absurd (omega (arith, lt))
  next_before (x ∷ []) k d s lt = absurd (omega (arith, lt))
  next_before (x ∷ y ∷ ks) zero d s lt = let h = sorted_head key_cmp _ _ s in ap is_lt (behind x y h.0)
  next_before (x ∷ y ∷ ks) (suc k) d s lt = next_before (y ∷ ks) k d (sorted_tail key_cmp _ _ s) (omega (arith, lt))

  sorted_row : (ks : List Key) → IsStrictlySortedBy key_cmp ks → IsSortedBy (λ (a b : Key). is_lt (key_cmp a b)) ks
  sorted_row ks s k d low high = rw add-one (next_before ks k d s (omega (arith, high)))

  -- what a search by halves finds
  pub searched_test : (ks : List Key) (r : Result ℕ ℕ) → IsStrictlySortedBy key_cmp ks → IsSearchInRange r (length ks) → IsBinarySearchResult (λ (q : Key). key_cmp q key) ks r → is_ok r ≡ list_any (eq_by_cmp key_cmp key) ks
  searched_test ks (Ok i) s b h = sym (found_any ks i b (h key))
  searched_test ks (Err i) s b h =
      let parted = h (searchable_from_sorted key_order.total (λ (q : Key). q) ks key (sorted_row ks s)) in
      sym (gap_any ks i (above ks i b (λ k d lt. parted.0 k d (omega arith) lt)) (below ks i parted.1))

  pub searched_here : (ks : List Key) (r : Result ℕ ℕ) → IsStrictlySortedBy key_cmp ks → IsSearchInRange r (length ks) → IsBinarySearchResult (λ (q : Key). key_cmp q key) ks r → IfOk r (λ _. insert_key key_cmp ks key ≡ ks)
  searched_here ks (Ok i) s b h = found_put ks i b s (h key)
  searched_here ks (Err i) s b h = tt

  pub searched_gap : (ks : List Key) (r : Result ℕ ℕ) → IsStrictlySortedBy key_cmp ks → IsSearchInRange r (length ks) → IsBinarySearchResult (λ (q : Key). key_cmp q key) ks r → IfErr r (λ i. insert_key key_cmp ks key ≡ insert ks i key)
  searched_gap ks (Ok i) s b h = tt
  searched_gap ks (Err i) s b h =
      let parted = h (searchable_from_sorted key_order.total (λ (q : Key). q) ks key (sorted_row ks s)) in
      gap_put ks i (above ks i b (λ k d lt. parted.0 k d (omega arith) lt)) (below ks i parted.1)

-- ---- rising keys put one after another

put_last : (ks : List Key) (k : Key) → IsAbove key_cmp k ks → insert_key key_cmp ks k ≡ ks ++ k ∷ []
put_last [] k h = refl
put_last (x ∷ ks) k h = ap (λ o. match_ordering o (k ∷ x ∷ ks) (x ∷ ks) (x ∷ insert_key key_cmp ks k)) h.0 ∙ ap (λ rest. x ∷ rest) (put_last ks k h.1)

pub put_next : (row : List Key) (i : ℕ) (key : Key) (keys keys' : List Key) → key ≡ get_or row i key → i < length row → IsStrictlySortedBy key_cmp row → keys ++ drop i row ≡ row → keys' ≡ insert_key key_cmp keys key → keys' ++ drop (i + 1) row ≡ row
put_next row i key keys keys' is within sorted so_far made =
    let next : drop i row ≡ key ∷ drop (i + 1) row = drop-cons row i key within ∙ ap (λ x. x ∷ drop (suc i) row) (sym is) ∙ (let e : suc i ≡ i + 1 = omega arith in ap (λ k. key ∷ drop k row) e) in
    let all : keys ++ key ∷ drop (i + 1) row ≡ row = ap (λ rest. keys ++ rest) (sym next) ∙ so_far in
    let last = put_last keys key (IsAbove-from_sorted key_order.total keys key (drop (i + 1) row) (subst (IsStrictlySortedBy key_cmp) (sym all) sorted)) in
    ap (λ ks. ks ++ drop (i + 1) row) (made ∙ last) ∙ append_assoc keys (key ∷ []) (drop (i + 1) row) ∙ all
