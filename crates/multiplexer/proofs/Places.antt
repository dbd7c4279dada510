-- A list whose items are news of keys, by key, at the place of a key, and at the gap for one.
use Rattle.std.proofs.Common.{◌≡◌, ℕ, zero, suc, ◌<◌, ◌≤◌, false, List, [], ◌∷◌, length, map, get_or, take, drop, slice_get, slice_set, Option, Some, Result, Ok, Err, IfOk, IfErr, refl, ap, sym, subst, ◌∙◌, arith, add-one}
use Rattle.std.specs.List.{AllWithin, HoldsAt, insert}
use Rattle.std.specs.List.Sorted.{IsSortedBy, IsSearchInRange, IsBinarySearchResult}
use Rattle.std.specs.declared.cmp.Ordering.TheVariants.{Less, Equal, Greater}
use Rattle.std.specs.Ordering.{is_lt, match_ordering, ordering_reverse}
use Rattle.std.specs.Cmp.{tied_itself}
use Rattle.std.specs.Map.{keys_of}
use Rattle.std.proofs.lemmas.Map.Keys.{sorted_head, sorted_tail}
use Rattle.std.proofs.lemmas.List.Sorted.{searchable_from_sorted}
use Rattle.std.proofs.lemmas.Option.{same_Some, none-some, slice_get_within}
use Rattle.map_model.specs.Maps.{set, IsSorted}
use Rattle.map_model.specs.Orders.{IsAbove}
use Rattle.value_model.specs.Val.{Entries}
use Rattle.ejson_value.specs.declared.key.Key.{Key}
use Rattle.ejson_value.specs.Key.{key_cmp, key_total, key_exact}
use Rattle.multiplexer.specs.Leading.{News}
use Rattle.multiplexer.specs.Joining.{key_at, IsBelow, IsGapFor}

behind : (x k : Key) → key_cmp x k ≡ Less → key_cmp k x ≡ Greater
behind x k less = key_total.antisymm k x ∙ ap ordering_reverse less

before : (x k : Key) → key_cmp x k ≡ Greater → key_cmp k x ≡ Less
before x k more = key_total.antisymm k x ∙ ap ordering_reverse more

less_at : (x : Key) (ks : List Key) (i : ℕ) (k : Key) → IsBelow x ks → slice_get ks i ≡ Some k → key_cmp x k ≡ Less
less_at x [] i k h e = absurd (none-some k e)
less_at x (y ∷ ks) zero k h e = subst (λ z. key_cmp x z ≡ Less) (same_Some y k e) h.0
less_at x (y ∷ ks) (suc i) k h e = less_at x ks i k h.1 e

module _ {A : Type 0} (said : A → Key × Option Entries) where
  abbrev pub key_in : A → Key
  key_in x = (said x).0

  abbrev pub all_said : List A → News
  all_said xs = map said xs

  module _ (key : Key) where
    same_key : (x : Key) → Some x ≡ Some key → key_cmp key x ≡ Equal
    same_key x e = ap (λ k. key_cmp key k) (same_Some x key e) ∙ tied_itself key_total key

    -- the first is before what stands at a later place
    past_first : (p : A) (ps : List A) (i : ℕ) → IsSorted key_cmp (all_said (p ∷ ps)) → key_at (all_said ps) i ≡ Some key → key_cmp key (key_in p) ≡ Greater
    past_first p ps i s is = behind (key_in p) key (less_at (key_in p) (keys_of (all_said ps)) i key (sorted_head key_cmp _ _ s) is)

    -- another one in its place
    set_written_by : (ps : List A) (i : ℕ) (x : A) (w : Option Entries) → said x ≡ (key, w) → IsSorted key_cmp (all_said ps) → key_at (all_said ps) i ≡ Some key → all_said (slice_set ps i x) ≡ set key_cmp (all_said ps) key (Some w)
    set_written_by [] i x w says s is = absurd (none-some key is)
    set_written_by (q ∷ ps) zero x w says s is =
        ap (λ (e : Key × Option Entries). e ∷ all_said ps) says
        ∙ (ap (λ (k : Key). (k, w) ∷ all_said ps) (sym (same_Some (key_in q) key is))
        ∙ ap (λ o. match_ordering o ((key, w) ∷ said q ∷ all_said ps) ((key_in q, w) ∷ all_said ps) (said q ∷ set key_cmp (all_said ps) key (Some w))) (sym (same_key (key_in q) is)))
    set_written_by (q ∷ ps) (suc i) x w says s is =
        ap (λ (rest : News). said q ∷ rest) (set_written_by ps i x w says (sorted_tail key_cmp _ _ s) is)
        ∙ ap (λ o. match_ordering o ((key, w) ∷ said q ∷ all_said ps) ((key_in q, w) ∷ all_said ps) (said q ∷ set key_cmp (all_said ps) key (Some w))) (sym (past_first q ps i s is))

    below_set : (ps : List A) (w : Option Entries) → IsBelow key (keys_of (all_said ps)) → set key_cmp (all_said ps) key (Some w) ≡ (key, w) ∷ all_said ps
    below_set [] w b = refl
    below_set (q ∷ ps) w b = ap (λ o. match_ordering o ((key, w) ∷ said q ∷ all_said ps) ((key_in q, w) ∷ all_said ps) (said q ∷ set key_cmp (all_said ps) key (Some w))) b.0

    set_inserted_by : (ps : List A) (i : ℕ) (x : A) (w : Option Entries) → said x ≡ (key, w) → IsAbove key_cmp key (take i (keys_of (all_said ps))) → IsBelow key (drop i (keys_of (all_said ps))) →
        all_said (insert ps i x) ≡ set key_cmp (all_said ps) key (Some w)
    set_inserted_by ps zero x w says a b = ap (λ (e : Key × Option Entries). e ∷ all_said ps) says ∙ sym (below_set ps w b)
    set_inserted_by [] (suc i) x w says a b = ap (λ (e : Key × Option Entries). e ∷ []) says
    set_inserted_by (q ∷ ps) (suc i) x w says a b =
        ap (λ (rest : News). said q ∷ rest) (set_inserted_by ps i x w says a.1 b)
        ∙ ap (λ o. match_ordering o ((key, w) ∷ said q ∷ all_said ps) ((key_in q, w) ∷ all_said ps) (said q ∷ set key_cmp (all_said ps) key (Some w))) (sym a.0)

    -- what a search by halves finds
    found : (ps : List A) (i : ℕ) → i < length ps → HoldsAt (λ (p : A). key_cmp (key_in p) key ≡ Equal) ps i → key_at (all_said ps) i ≡ Some key
    found [] i lt h = absurd (omega (arith, lt))
    found (p ∷ ps) zero lt h = ap (λ k. Some k) (key_exact (key_in p) key (h p))
    found (p ∷ ps) (suc i) lt h = let lt' : i < length ps = omega (arith, lt) in found ps i lt' (λ d. h d)

    above : (ps : List A) (i : ℕ) → i ≤ length ps → ((k : ℕ) (d : A) → k < i → key_cmp (key_in (get_or ps k d)) key ≡ Less) → IsAbove key_cmp key (take i (keys_of (all_said ps)))
    above ps zero le h = tt
    above [] (suc i) le h = absurd (omega (arith, le))
    above (p ∷ ps) (suc i) le h = (behind (key_in p) key (h zero p (omega arith)), above ps i (omega (arith, le)) (λ k d lt. h (suc k) d (omega (arith, lt))))

    below : (ps : List A) (i : ℕ) → ((k : ℕ) (d : A) → i ≤ k → k < length ps → key_cmp (key_in (get_or ps k d)) key ≡ Greater) → IsBelow key (drop i (keys_of (all_said ps)))
    below [] zero h = tt
    below [] (suc i) h = tt
    below (p ∷ ps) zero h = (before (key_in p) key (h zero p (omega arith) (omega arith)), below ps zero (λ k d le lt. h (suc k) d (omega arith) (omega (arith, lt))))
    below (p ∷ ps) (suc i) h = below ps i (λ k d le lt. h (suc k) d (omega (arith, le)) (omega (arith, lt)))

    gap : (ps : List A) (i : ℕ) → i ≤ length (all_said ps) → i ≤ length ps → AllWithin (λ (p : A). key_cmp (key_in p) key ≡ Less) ps 0 i → AllWithin (λ (p : A). key_cmp (key_in p) key ≡ Greater) ps i (length ps) → IsGapFor (all_said ps) key i
    gap ps i within le less more = record { within = within; above = above ps i le (λ k d lt. less k d (omega arith) lt); below = below ps i more }

  -- another one in the place of the one of its key
  pub set_written : (ps : List A) (i : ℕ) (x : A) → IsSorted key_cmp (all_said ps) → key_at (all_said ps) i ≡ Some (key_in x) → all_said (slice_set ps i x) ≡ set key_cmp (all_said ps) (key_in x) (Some (said x).1)
  set_written ps i x s is = set_written_by (key_in x) ps i x (said x).1 refl s is

  -- a new one in the gap for it
  pub set_inserted : (ps : List A) (i : ℕ) (x : A) → IsGapFor (all_said ps) (key_in x) i → all_said (insert ps i x) ≡ set key_cmp (all_said ps) (key_in x) (Some (said x).1)
  set_inserted ps i x g = set_inserted_by (key_in x) ps i x (said x).1 refl g.above g.below

  next_before : (ps : List A) (k : ℕ) (d : A) → IsSorted key_cmp (all_said ps) → suc k < length ps → is_lt (key_cmp (key_in (get_or ps (suc k) d)) (key_in (get_or ps k d))) ≡ false
  next_before [] k d s lt = absurd (omega (arith, lt))
  next_before (p ∷ []) k d s lt = absurd (omega (arith, lt))
  next_before (p ∷ q ∷ ps) zero d s lt = let h = sorted_head key_cmp _ _ s in ap is_lt (behind (key_in p) (key_in q) h.0)
  next_before (p ∷ q ∷ ps) (suc k) d s lt = next_before (q ∷ ps) k d (sorted_tail key_cmp _ _ s) (omega (arith, lt))

  -- items by key are sorted as a search by halves asks
  sorted_items : (ps : List A) → IsSorted key_cmp (all_said ps) → IsSortedBy (λ (a b : A). is_lt (key_cmp (key_in a) (key_in b))) ps
  sorted_items ps s k d low high = rw add-one (next_before ps k d s (omega (arith, high)))

  length_said : (ps : List A) → length (all_said ps) ≡ length ps
  length_said [] = refl
  length_said (p ∷ ps) = ap suc (length_said ps)

  length_keys : (ps : List A) → length (keys_of (all_said ps)) ≡ length ps
  length_keys [] = refl
  length_keys (p ∷ ps) = ap suc (length_keys ps)

  pub searched : (key : Key) (ps : List A) (r : Result ℕ ℕ) → IsSorted key_cmp (all_said ps) → IsSearchInRange r (length ps) → IsBinarySearchResult (λ (p : A). key_cmp (key_in p) key) ps r
      → IfOk r (λ i. key_at (all_said ps) i ≡ Some key) × IfErr r (IsGapFor (all_said ps) key)
  searched key ps (Ok i) s b h = (found key ps i b h, tt)
  searched key ps (Err i) s b h =
      let parted = h (searchable_from_sorted key_total (λ (p : A). key_in p) ps key (sorted_items ps s)) in
      (tt, gap key ps i (subst (λ n. i ≤ n) (sym (length_said ps)) b) b parted.0 parted.1)

  -- a place where a key stands is one of the list's, and so is a gap
  pub place_within : (ps : List A) (key : Key) (i : ℕ) → key_at (all_said ps) i ≡ Some key → i < length ps
  place_within ps key i is = subst (λ n. i < n) (length_keys ps) (slice_get_within (keys_of (all_said ps)) i key is)

  pub gap_within : (ps : List A) (key : Key) (i : ℕ) → IsGapFor (all_said ps) key i → i ≤ length ps
  gap_within ps key i g = subst (λ n. i ≤ n) (length_said ps) g.within
