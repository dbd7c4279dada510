-- Entries by rising key: one that goes last, and one that is taken from the end.
use Rattle.std.proofs.Common.{◌≡◌, ◌++◌, ◌<◌, ℕ, zero, suc, arith, length, get_or, take, true, false, cond, List, [], ◌∷◌, Option, Some, None, refl, sym, ap, ap₂, subst, ◌∙◌, true≢false}
use Rattle.std.specs.Option.{option_or}
use Rattle.std.specs.declared.cmp.Ordering.TheVariants.{Less, Equal, Greater}
use Rattle.std.specs.declared.cmp.Ordering.{Ordering}
use Rattle.std.specs.Ordering.{eq_by_cmp, is_eq, is_ge}
use Rattle.std.specs.Map.{keys_of}
use Rattle.std.specs.List.{AllByRecursion}
use Rattle.std.specs.List.Sorted.{IsStrictlySortedBy}
use Rattle.std.proofs.lemmas.List.{map-append}
use Rattle.std.proofs.lemmas.Map.Keys.{sorted_tail}
use Rattle.map_model.specs.Maps.{at, IsSorted}
use Rattle.map_model.specs.MapLaws.{key_is, eq_by_cmp-self, at-put, sorted-nil, sorted-put, at-tail}
use Rattle.map_model.specs.Orders.{IsAbove}
use Rattle.map_model.specs.OrderLaws.{put_last, IsAbove-from_sorted}
use Rattle.merge_model.specs.Publishing.{last_news}
use Rattle.value_model.specs.Val.{Entries}
use Rattle.ejson_value.specs.declared.key.Key.{Key}
use Rattle.ejson_value.specs.declared.change.Publish.{Publish}
use Rattle.ejson_value.specs.Key.{key_cmp, key_order}
use Rattle.ejson_value.specs.Changes.{news_of}
use Rattle.merge_box.proofs.Listing.{either_way}

-- ---- keys
less_before : (x : Key) (ks rest : List Key) → AllByRecursion (λ y. key_cmp x y ≡ Less) (ks ++ rest) → AllByRecursion (λ y. key_cmp x y ≡ Less) ks
less_before x [] rest h = tt
less_before x (k ∷ ks) rest h = (h.0, less_before x ks rest h.1)

sorted_before : (ks rest : List Key) → IsStrictlySortedBy key_cmp (ks ++ rest) → IsStrictlySortedBy key_cmp ks
unfolding IsStrictlySortedBy
sorted_before [] rest s = tt
sorted_before (k ∷ ks) rest s = (less_before k ks rest s.0, sorted_before ks rest s.1)

less_on : (a b : Key) (ks : List Key) → key_cmp a b ≡ Less → AllByRecursion (λ y. key_cmp b y ≡ Less) ks → AllByRecursion (λ y. key_cmp a y ≡ Less) ks
less_on a b [] less h = tt
less_on a b (k ∷ ks) less h = (key_order.total.trans a b k less h.0, less_on a b ks less h.1)

-- a key below the first
pub sorted_next : (a b : Key) (ks : List Key) → key_cmp a b ≡ Less → IsStrictlySortedBy key_cmp (b ∷ ks) → IsStrictlySortedBy key_cmp (a ∷ b ∷ ks)
unfolding IsStrictlySortedBy
sorted_next a b ks less s = ((less, less_on a b ks less s.0), s)

sorted_one : (a : Key) → IsStrictlySortedBy key_cmp (a ∷ [])
unfolding IsStrictlySortedBy
sorted_one a = (tt, tt)

pub sorted_end : (a : Key) (news : List Publish) → length news ≡ 0 → IsStrictlySortedBy key_cmp (a ∷ keys_of (news_of news))
sorted_end a [] none = sorted_one a
sorted_end a (p ∷ news) none = absurd (omega (arith, none))

pub sorted_none : (news : List Publish) → length news ≡ 0 → IsSorted key_cmp (news_of news)
sorted_none [] none = sorted-nil key_cmp
sorted_none (p ∷ news) none = absurd (omega (arith, none))

pub less_of : (o : Ordering) → is_ge o ≡ false → o ≡ Less
less_of Less e = refl
less_of Equal e = absurd (true≢false e)
less_of Greater e = absurd (true≢false e)

-- ---- entries
module _ {X : Type 0} where
  -- a key above all others is not among them
  at_above : (es : List (Key × X)) (key : Key) → IsAbove key_cmp key (keys_of es) → at key_cmp es key ≡ None
  at_above [] key above = refl
  at_above (e ∷ es) key above = ap (λ o. cond (is_eq o) (Some e.1) (at key_cmp es key)) above.0 ∙ at_above es key above.1

  -- one more goes last
  pub at_push : (es : List (Key × X)) (key : Key) (x : X) → IsAbove key_cmp key (keys_of es) → (k : Key) → at key_cmp (es ++ (key, x) ∷ []) k ≡ cond (eq_by_cmp key_cmp k key) (Some x) (at key_cmp es k)
  at_push es key x above k = ap (λ m. at key_cmp m k) (sym (put_last key_cmp es key x above)) ∙ at-put key_order es key x k

  pub sorted_push : (es : List (Key × X)) (key : Key) (x : X) → IsAbove key_cmp key (keys_of es) → IsSorted key_cmp es → IsSorted key_cmp (es ++ (key, x) ∷ [])
  sorted_push es key x above s = subst (λ m. IsSorted key_cmp m) (put_last key_cmp es key x above) (sorted-put key_order es key x s)

  -- the last is taken
  module _ (all rest : List (Key × X)) (key : Key) (x : X) (split : all ≡ rest ++ (key, x) ∷ []) (sorted : IsSorted key_cmp all) where
    split_keys : IsStrictlySortedBy key_cmp (keys_of rest ++ key ∷ [])
    split_keys = subst (IsStrictlySortedBy key_cmp) (map-append (λ (e : Key × X). e.0) rest ((key, x) ∷ [])) (subst (λ m. IsSorted key_cmp m) split sorted)

    pub last_above : IsAbove key_cmp key (keys_of rest)
    last_above = IsAbove-from_sorted key_order.total (keys_of rest) key [] split_keys

    last_put : (k : Key) → at key_cmp all k ≡ cond (eq_by_cmp key_cmp k key) (Some x) (at key_cmp rest k)
    last_put k = ap (λ m. at key_cmp m k) split ∙ at_push rest key x last_above k

    pub last_value : at key_cmp all key ≡ Some x
    last_value = last_put key ∙ ap (λ b. cond b (Some x) (at key_cmp rest key)) (eq_by_cmp-self key_order key)

    pub last_taken : (k : Key) → at key_cmp rest k ≡ cond (is_eq (key_cmp key k)) None (at key_cmp all k)
    last_taken k = sym (ap₂ (λ b w. cond b None w) (either_way key k) (last_put k)
        ∙ elim (eq_by_cmp key_cmp k key) as (λ b. eq_by_cmp key_cmp k key ≡ b → cond b None (cond b (Some x) (at key_cmp rest k)) ≡ at key_cmp rest k) [
          | true ↦ λ t. sym (ap (at key_cmp rest) (key_is key_order k key t) ∙ at_above rest key last_above)
          | false ↦ λ _. refl
        ] refl)

    pub rest_sorted : IsSorted key_cmp rest
    rest_sorted = sorted_before (keys_of rest) (key ∷ []) split_keys

-- ---- news
-- the next of the news is above those before it
split_news : (news : List Publish) (i : ℕ) (p : Publish) → p ≡ get_or news i p → i < length news → (rest : List Key) × (keys_of (news_of news) ≡ keys_of (news_of (take i news)) ++ p.key ∷ rest)
split_news [] i p is h = absurd (omega arith)
split_news (q ∷ news) zero p is h = (keys_of (news_of news), ap (λ (x : Publish). x.key ∷ keys_of (news_of news)) (sym is))
split_news (q ∷ news) (suc i) p is h =
    let h' : i < length news = omega arith in
    let more = split_news news i p is h' in
    (more.0, ap (λ ks. q.key ∷ ks) more.1)

pub next_above : (news : List Publish) (i : ℕ) (p : Publish) → p ≡ get_or news i p → i < length news → IsSorted key_cmp (news_of news) → IsAbove key_cmp p.key (keys_of (news_of (take i news)))
next_above news i p is h s =
    let more = split_news news i p is h in
    IsAbove-from_sorted key_order.total (keys_of (news_of (take i news))) p.key more.0 (subst (IsStrictlySortedBy key_cmp) more.1 s)

or_none : {D : Type 0} (w : Option D) → option_or w None ≡ w
or_none None = refl
or_none (Some d) = refl

-- of news by rising key the last is the one
pub last_of_sorted : (news : List (Key × Option Entries)) (k : Key) → IsSorted key_cmp news → last_news key_cmp news k ≡ at key_cmp news k
last_of_sorted [] k s = refl
last_of_sorted (e ∷ news) k s =
    let rest = last_of_sorted news k (sorted_tail key_cmp _ _ s) in
    elim (eq_by_cmp key_cmp k e.0) as (λ b. eq_by_cmp key_cmp k e.0 ≡ b → option_or (last_news key_cmp news k) (cond b (Some e.1) None) ≡ cond b (Some e.1) (at key_cmp news k)) [
      | true ↦ λ t. ap (λ w. option_or w (Some e.1)) (rest ∙ at-tail key_order e news k s t)
      | false ↦ λ _. or_none (last_news key_cmp news k) ∙ rest
    ] refl
