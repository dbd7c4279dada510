-- The armed fences are those in the two heaps, in whatever order these hold them.
use Rattle.std.proofs.Common.{◌≡◌, ℕ, ◌≤◌, Bool, true, false, cond, List, [], ◌∷◌, map, Option, Some, None, IsSomeAnd, IsNone, IfNone, IfSome, ◌↔◌, All, Contains, refl, sym, ap, subst, ◌∙◌, arith}
use Rattle.std.proofs.lemmas.Bool.Decides.{nat_tests}
use Rattle.std.proofs.lemmas.Cmp.{nat_cmp_total, eq_by_cmp_equiv}
use Rattle.std.proofs.lemmas.List.Elements.{All-cons, All-append, All-map, All-weaker, All-from_recursion, All-contains}
use Rattle.std.proofs.lemmas.List.Sorted.{IsPermutation-map, IsPermutation-append_left, IsPermutation-append_right, IsPermutation-middle, IsPermutation-sym, IsPermutation-trans, Contains-permutation}
use Rattle.std.proofs.lemmas.Map.Keys.{IsDistinct-IsPermutation, IsDistinct-head, IsDistinct-tail, IsDistinct-cons}
use Rattle.std.proofs.lemmas.Map.Lookups.{exact_unsigned}
use Rattle.std.proofs.lemmas.Map.Views.{Contains-from_lookup, lookup-from_Contains}
use Rattle.std.specs.BinaryHeap.{IsUpperBound}
use Rattle.std.specs.List.{IsDistinct, AllByRecursion}
use Rattle.std.specs.List.Sorted.{IsPermutation}
use Rattle.std.specs.Map.{keys_of}
use Rattle.std.specs.Option.{option_or}
use Rattle.std.specs.Ordering.{nat_cmp, eq_by_cmp, is_lt}
use Rattle.map_model.specs.Maps.{at, set, IsSorted, IsKeyOrder, union}
use Rattle.map_model.specs.MapLaws.{same_maps, sorted-nil, sorted-union, at-union, at-set, sorted-set, key_is, eq_by_cmp-self}
use Rattle.write_fence.specs.Fences.{Armed, IsReached, CanFire, IsLeastToFire}
use Rattle.write_fence.specs.Index.{Pair, least_first, fences_in, IsLeastOf}

abbrev Fence : Type 0
Fence = ℕ × ℕ

abbrev number_end : Pair → Fence
number_end p = (p.0.0, p.0.1)

abbrev end_number : Pair → Fence
end_number p = (p.0.1, p.0.0)

-- ---- what a step of one heap does to the fences of both
pub pop_waiting : (ws vs rs : List Pair) (p : Pair) → IsPermutation ws (p ∷ vs) → IsPermutation (fences_in ws rs) (end_number p ∷ fences_in vs rs)
pop_waiting ws vs rs p h = IsPermutation-append_left (map number_end rs) (map end_number ws) (end_number p ∷ map end_number vs) (IsPermutation-map end_number ws (p ∷ vs) h)

pub put_waiting : (ws vs rs : List Pair) (p : Pair) → IsPermutation (p ∷ ws) vs → IsPermutation (end_number p ∷ fences_in ws rs) (fences_in vs rs)
put_waiting ws vs rs p h = IsPermutation-sym (fences_in vs rs) (end_number p ∷ fences_in ws rs) (pop_waiting vs ws rs p (IsPermutation-sym (p ∷ ws) vs h))

pub pop_reached : (ws rs qs : List Pair) (p : Pair) → IsPermutation rs (p ∷ qs) → IsPermutation (fences_in ws rs) (number_end p ∷ fences_in ws qs)
pop_reached ws rs qs p h =
    IsPermutation-trans (fences_in ws rs) (fences_in ws (p ∷ qs)) (number_end p ∷ fences_in ws qs)
    (IsPermutation-append_right (map end_number ws) (map number_end rs) (number_end p ∷ map number_end qs) (IsPermutation-map number_end rs (p ∷ qs) h))
    (IsPermutation-middle (map end_number ws) (number_end p) (map number_end qs))

pub put_reached : (ws rs qs : List Pair) (p : Pair) → IsPermutation (p ∷ rs) qs → IsPermutation (number_end p ∷ fences_in ws rs) (fences_in ws qs)
put_reached ws rs qs p h = IsPermutation-sym (fences_in ws qs) (number_end p ∷ fences_in ws rs) (pop_reached ws qs rs p (IsPermutation-sym (p ∷ rs) qs h))

-- ---- the numbers stay distinct
abbrev same_number : ℕ → ℕ → Bool
same_number = eq_by_cmp nat_cmp

abbrev pub Distinct : List Fence → Type 0
Distinct fs = IsDistinct same_number (keys_of fs)

flips : (x y : ℕ) → same_number x y ≡ same_number y x
flips x y = grind (arith, nat_tests)

pub distinct_same : (fs gs : List Fence) → IsPermutation fs gs → Distinct fs → Distinct gs
distinct_same fs gs h d = IsDistinct-IsPermutation same_number flips (keys_of fs) (keys_of gs) (IsPermutation-map (λ (f : Fence). f.0) fs gs h) d

pub distinct_none : Distinct []
unfolding IsDistinct
distinct_none = tt

pub distinct_rest : (fs gs : List Fence) (f : Fence) → IsPermutation fs (f ∷ gs) → Distinct fs → Distinct gs
distinct_rest fs gs f h d = IsDistinct-tail same_number f.0 (keys_of gs) (distinct_same fs (f ∷ gs) h d)

none_at : (fs : List Fence) (k : ℕ) → at nat_cmp fs k ≡ None → AllByRecursion (λ q. same_number k q ≡ false) (keys_of fs)
none_at [] k e = tt
none_at (f ∷ fs) k e =
    elim (same_number k f.0) as (λ b. same_number k f.0 ≡ b → cond b (Some f.1) (at nat_cmp fs k) ≡ None → AllByRecursion (λ q. same_number k q ≡ false) (keys_of (f ∷ fs))) [
      | true ↦ λ _ no. cc
      | false ↦ λ apart rest. (apart, none_at fs k rest)
    ] refl e

at_none : (fs : List Fence) (k : ℕ) → AllByRecursion (λ q. same_number k q ≡ false) (keys_of fs) → at nat_cmp fs k ≡ None
at_none [] k h = refl
at_none (f ∷ fs) k h = ap (λ b. cond b (Some f.1) (at nat_cmp fs k)) h.0 ∙ at_none fs k h.1

-- ---- the map of the armed fences
number_order : IsKeyOrder nat_cmp
number_order = record { total = nat_cmp_total; exact = exact_unsigned }

abbrev pub armed : List Fence → Armed
armed fs = union nat_cmp fs []

or_none : (x : Option ℕ) → option_or x None ≡ x
or_none None = refl
or_none (Some v) = refl

at-armed : (fs : List Fence) (k : ℕ) → at nat_cmp (armed fs) k ≡ at nat_cmp fs k
at-armed fs k = at-union number_order fs [] k ∙ or_none (at nat_cmp fs k)

pub sorted-armed : (fs : List Fence) → IsSorted nat_cmp (armed fs)
sorted-armed fs = sorted-union number_order fs [] (sorted-nil nat_cmp)

has_fence : (fs : List Fence) (k v : ℕ) → at nat_cmp fs k ≡ Some v → Contains fs (k, v)
has_fence fs k v e = Contains-from_lookup {eq = same_number} (key_is number_order) k v fs e

is_at_fence : (fs : List Fence) (k v : ℕ) → Distinct fs → Contains fs (k, v) → at nat_cmp fs k ≡ Some v
is_at_fence fs k v d h = lookup-from_Contains (eq_by_cmp_equiv nat_cmp_total) k v fs d h

same_option : (x y : Option ℕ) → ((v : ℕ) → x ≡ Some v → y ≡ Some v) → ((v : ℕ) → y ≡ Some v → x ≡ Some v) → x ≡ y
same_option None None f g = refl
same_option None (Some v) f g = g v refl
same_option (Some v) y f g = sym (f v refl)

-- fences in another order are the same map
pub armed_same : (fs gs : List Fence) → IsPermutation fs gs → Distinct fs → armed fs ≡ armed gs
armed_same fs gs h d =
    same_maps number_order (armed fs) (armed gs) (sorted-armed fs) (sorted-armed gs)
    (λ k. at-armed fs k ∙ same_option (at nat_cmp fs k) (at nat_cmp gs k)
    (λ v e. is_at_fence gs k v (distinct_same fs gs h d) (Contains-permutation fs gs (k, v) h (has_fence fs k v e)))
    (λ v e. is_at_fence fs k v d (Contains-permutation gs fs (k, v) (IsPermutation-sym fs gs h) (has_fence gs k v e)))
    ∙ sym (at-armed gs k))

-- one fence more, of a number that none has
pub distinct_more : (fs gs : List Fence) (k v : ℕ) → IsPermutation ((k, v) ∷ fs) gs → Distinct fs → at nat_cmp (armed fs) k ≡ None → Distinct gs
distinct_more fs gs k v h d free = distinct_same ((k, v) ∷ fs) gs h (IsDistinct-cons same_number k (keys_of fs) (none_at fs k (sym (at-armed fs k) ∙ free)) d)

pub armed_more : (fs gs : List Fence) (k v : ℕ) → IsPermutation ((k, v) ∷ fs) gs → Distinct fs → at nat_cmp (armed fs) k ≡ None → armed gs ≡ set nat_cmp (armed fs) k (Some v)
armed_more fs gs k v h d free = sym (armed_same ((k, v) ∷ fs) gs h (IsDistinct-cons same_number k (keys_of fs) (none_at fs k (sym (at-armed fs k) ∙ free)) d))

-- one fence less
pub armed_less : (fs gs : List Fence) (k v : ℕ) → IsPermutation fs ((k, v) ∷ gs) → Distinct fs → armed gs ≡ set nat_cmp (armed fs) k None
armed_less fs gs k v h d =
    same_maps number_order (armed gs) (set nat_cmp (armed fs) k None) (sorted-armed gs) (sorted-set number_order (armed fs) k None (sorted-armed fs))
    (λ q. at-armed gs q ∙ sym (
    at-set number_order (armed fs) k None q (sorted-armed fs)
    ∙ ap (λ m. cond (same_number q k) None (at nat_cmp m q)) (armed_same fs ((k, v) ∷ gs) h d)
    ∙ ap (λ x. cond (same_number q k) None x) (at-armed ((k, v) ∷ gs) q)
    ∙ elim (same_number q k) as (λ b. same_number q k ≡ b → cond b None (cond b (Some v) (at nat_cmp gs q)) ≡ at nat_cmp gs q) [
      | true ↦ λ e. sym (ap (at nat_cmp gs) (key_is number_order q k e) ∙ gone)
      | false ↦ λ _. refl
    ] refl))
  where
    gone : at nat_cmp gs k ≡ None
    gone = at_none gs k (IsDistinct-head same_number k (keys_of gs) (distinct_same fs ((k, v) ∷ gs) h d))

-- ---- which can fire
value_of : (o : Option ℕ) (P : ℕ → Type 0) → IsSomeAnd o P → (v : ℕ) × (o ≡ Some v) × P v
value_of None P h = absurd h
value_of (Some x) P h = (x, refl, h)

fence_of : (fs : List Fence) (least : Option ℕ) (k : ℕ) → CanFire (armed fs) least k → (v : ℕ) × Contains fs (k, v) × IsReached least v
fence_of fs least k h = let p = value_of (at nat_cmp (armed fs) k) (IsReached least) h in (p.0, has_fence fs k p.0 (sym (at-armed fs k) ∙ p.1), p.2)

pub none_fires : (fs : List Fence) (least : Option ℕ) → All (λ f. ¬ IsReached least f.1) fs → (k : ℕ) → ¬ CanFire (armed fs) least k
none_fires fs least all k h = let p = fence_of fs least k h in All-contains (λ f. ¬ IsReached least f.1) fs (k, p.0) all p.1 p.2

pub least_fires : (fs gs : List Fence) (least : Option ℕ) (k v : ℕ) → IsPermutation fs ((k, v) ∷ gs) → Distinct fs → IsReached least v → All (λ f. IsReached least f.1 → k ≤ f.0) gs → IsLeastToFire (armed fs) least k
least_fires fs gs least k v h d reached all = record {
  can_fire = let P : Option ℕ → Type 0 = λ o. IsSomeAnd o (IsReached least) in subst P (sym (ap (λ m. at nat_cmp m k) (armed_same fs ((k, v) ∷ gs) h d) ∙ at-armed ((k, v) ∷ gs) k ∙ here)) reached;
  is_least = λ j fires.
      let p = fence_of fs least j fires in
      All-contains (λ f. IsReached least f.1 → k ≤ f.0) ((k, v) ∷ gs) (j, p.0) (All-cons (λ f. IsReached least f.1 → k ≤ f.0) (k, v) gs (λ _. omega arith) all) (Contains-permutation fs ((k, v) ∷ gs) (j, p.0) h p.1) p.2;
}
  where
    here : at nat_cmp ((k, v) ∷ gs) k ≡ Some v
    here = ap (λ b. cond b (Some v) (at nat_cmp gs k)) (eq_by_cmp-self number_order k)

-- none of those that wait is reached, and none of the others has a lower number
not_below : (k at : ℕ) (p : Pair) → is_lt (least_first (record { 0 = (k, at) }) p) ≡ false → k ≤ p.0.0
not_below k at p h = grind (arith, nat_tests)

pub least_of_all : (ws rs : List Pair) (least : Option ℕ) (k at : ℕ) → All (λ p. ¬ IsReached least p.0.0) ws → IsUpperBound least_first (record { 0 = (k, at) }) rs → All (λ f. IsReached least f.1 → k ≤ f.0) (fences_in ws rs)
least_of_all ws rs least k at waiting above =
    let P : Fence → Type 0 = λ f. IsReached least f.1 → k ≤ f.0 in
    All-append P (map end_number ws) (map number_end rs)
    (All-map P end_number ws (All-weaker (λ p. ¬ IsReached least p.0.0) (λ p. P (end_number p)) (λ p no yes. absurd (no yes)) ws waiting))
    (All-map P number_end rs (All-weaker (λ p. is_lt (least_first (record { 0 = (k, at) }) p) ≡ false) (λ p. P (number_end p)) (λ p h _. not_below k at p h) rs (All-from_recursion (λ p. is_lt (least_first (record { 0 = (k, at) }) p) ≡ false) rs above)))

pub none_of_all : (ws : List Pair) (least : Option ℕ) → All (λ p. ¬ IsReached least p.0.0) ws → All (λ f. ¬ IsReached least f.1) (fences_in ws [])
none_of_all ws least waiting = let P : Fence → Type 0 = λ f. ¬ IsReached least f.1 in All-append P (map end_number ws) [] (All-map P end_number ws waiting) (λ i d h. absurd (omega (arith, h)))

-- ---- what a call fires
pub record IsFired (r least : Option ℕ) (before after : List Fence) : Type 0 where
  pub none : IsNone r ↔ ((k : ℕ) → ¬ CanFire (armed before) least k)
  pub least_one : IfSome r (IsLeastToFire (armed before) least)
  pub unchanged : IfNone r (armed after ≡ armed before)
  pub taken : IfSome r (λ k. armed after ≡ set nat_cmp (armed before) k None)

pub fired_is : (r least : Option ℕ) (fs gs hs : List Fence) → Distinct fs → IsPermutation fs gs → IfNone r (IsPermutation gs hs) → IfNone r (All (λ f. ¬ IsReached least f.1) hs) → IfSome r (λ k. IsLeastOf least k gs hs) → IsFired r least fs hs
fired_is None least fs gs hs d moved same none taken =
    let all = IsPermutation-trans fs gs hs moved same in
    let is = armed_same fs hs all d in
    let Quiet : Armed → Type 0 = λ m. (k : ℕ) → ¬ CanFire m least k in
    record { none = ((λ _. subst Quiet (sym is) (none_fires hs least none)), λ _. refl); least_one = tt; unchanged = sym is; taken = tt }
fired_is (Some k) least fs gs hs d moved same none taken =
    let all = IsPermutation-trans fs gs ((k, taken.end) ∷ hs) moved taken.is_taken in
    let is = least_fires fs hs least k taken.end all d taken.is_reached taken.is_least in
    record { none = ((λ e. cc), λ quiet. absurd (quiet k is.can_fire)); least_one = is; unchanged = tt; taken = armed_less fs hs k taken.end all d }
