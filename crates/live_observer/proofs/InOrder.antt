-- What one cursor tells by rising id is the answer in that order.
use Rattle.std.proofs.Common.{◌≡◌, ℕ, arith, false, List, [], ◌∷◌, ◌++◌, map, length, Option, refl, sym, ap, subst, ◌∙◌, append_assoc, append-nil, true≢false}
use Rattle.std.specs.declared.cmp.Ordering.{Ordering}
use Rattle.std.specs.declared.cmp.Ordering.TheVariants.{Less, Equal, Greater}
use Rattle.std.specs.Ordering.{is_ge}
use Rattle.std.specs.List.{AllByRecursion}
use Rattle.std.specs.List.Sorted.{IsStrictlySortedBy}
use Rattle.std.specs.Map.{keys_of}
use Rattle.std.proofs.lemmas.List.{map-append}
use Rattle.map_model.specs.Maps.{IsSorted}
use Rattle.map_model.specs.MapLaws.{sorted-nil}
use Rattle.map_model.specs.OrderLaws.{put_last, IsAbove-from_sorted}
use Rattle.value_model.specs.Val.{Entries}
use Rattle.value_model.specs.Order.{text_cmp}
use Rattle.ejson_value.specs.declared.key.Key.{Key}
use Rattle.ejson_value.specs.Key.{key_cmp, key_of, key_order, name_order}
use Rattle.sort_window.specs.declared.rows.Shown.{Shown}
use Rattle.live_observer.specs.Answering.{ToldMap, put_told, publish_of, publish_at, as_told}
use Rattle.live_observer.proofs.Answers.{Told}
use Rattle.live_observer.proofs.Matching.{same_collection}

-- ---- ids that rise
abbrev Ids : Type 0
Ids = List (List ℕ)

abbrev AreAbove : List ℕ → Ids → Type 0
AreAbove id ids = AllByRecursion (λ y. text_cmp id y ≡ Less) ids

less_on : (a b : List ℕ) (ids : Ids) → text_cmp a b ≡ Less → AreAbove b ids → AreAbove a ids
less_on a b [] less h = tt
less_on a b (id ∷ ids) less h = (name_order.total.trans a b id less h.0, less_on a b ids less h.1)

-- an id below the first
pub sorted_next : (a b : List ℕ) (ids : Ids) → text_cmp a b ≡ Less → IsStrictlySortedBy text_cmp (b ∷ ids)
    → IsStrictlySortedBy text_cmp (a ∷ b ∷ ids)
unfolding IsStrictlySortedBy
sorted_next a b ids less s = ((less, less_on a b ids less s.0), s)

sorted_one : (a : List ℕ) → IsStrictlySortedBy text_cmp (a ∷ [])
unfolding IsStrictlySortedBy
sorted_one a = (tt, tt)

pub sorted_end : (a : List ℕ) (shown : List Shown) → length shown ≡ 0
    → IsStrictlySortedBy text_cmp (a ∷ keys_of (as_told shown))
sorted_end a [] none = sorted_one a
sorted_end a (one ∷ shown) none = absurd (omega (arith, none))

pub sorted_none : (shown : List Shown) → length shown ≡ 0 → IsSorted text_cmp (as_told shown)
sorted_none [] none = sorted-nil text_cmp
sorted_none (one ∷ shown) none = absurd (omega (arith, none))

pub less_of : (o : Ordering) → is_ge o ≡ false → o ≡ Less
less_of Less e = refl
less_of Equal e = absurd (true≢false e)
less_of Greater e = absurd (true≢false e)

-- ---- keys of one name rise where their ids do
abbrev named : List ℕ → Ids → List Key
named name ids = map (key_of name) ids

keys_below : (name id : List ℕ) (ids : Ids) → AreAbove id ids
    → AllByRecursion (λ y. key_cmp (key_of name id) y ≡ Less) (named name ids)
keys_below name id [] h = tt
keys_below name id (k ∷ ids) h =
    (same_collection name (key_of name id) (key_of name k) refl refl ∙ h.0, keys_below name id ids h.1)

sorted_keys : (name : List ℕ) (ids : Ids) → IsStrictlySortedBy text_cmp ids → IsStrictlySortedBy key_cmp (named name ids)
unfolding IsStrictlySortedBy
sorted_keys name [] s = tt
sorted_keys name (id ∷ ids) s = (keys_below name id ids s.0, sorted_keys name ids s.1)

-- ---- what is told goes behind what is there
abbrev under : List ℕ → Told → ToldMap
under name told = map (λ one. (key_of name one.0, one.1)) told

told_behind : (name : List ℕ) (answer : ToldMap) (told : Told)
    → IsStrictlySortedBy key_cmp (keys_of answer ++ named name (keys_of told))
    → put_told name answer told ≡ answer ++ under name told
told_behind name answer [] s = sym (append-nil answer)
told_behind name answer (one ∷ told) s =
    let key = key_of name one.0 in
    let entry : Key × Option Entries = (key, one.1) in
    let rest = named name (keys_of told) in
    let put = put_last key_cmp answer key one.1 (IsAbove-from_sorted key_order.total (keys_of answer) key rest s) in
    let keys : keys_of (answer ++ entry ∷ []) ++ rest ≡ keys_of answer ++ key ∷ rest =
    ap (λ ks. ks ++ rest) (map-append (λ e. e.0) answer (entry ∷ [])) ∙ append_assoc (keys_of answer) (key ∷ []) rest in
    ap (λ m. put_told name m told) put
    ∙ told_behind name (answer ++ entry ∷ []) told (subst (IsStrictlySortedBy key_cmp) (sym keys) s)
    ∙ append_assoc answer (entry ∷ []) (under name told)

published : (name : List ℕ) (shown : List Shown)
    → map publish_of (under name (as_told shown)) ≡ map (publish_at name) shown
published name [] = refl
published name (one ∷ shown) = ap (λ rest. publish_at name one ∷ rest) (published name shown)

-- the answer of one cursor
pub in_order : (name : List ℕ) (shown : List Shown) → IsSorted text_cmp (as_told shown)
    → map publish_of (put_told name [] (as_told shown)) ≡ map (publish_at name) shown
in_order name shown s =
    let told = as_told shown in
    ap (map publish_of) (told_behind name [] told (sorted_keys name (keys_of told) s)) ∙ published name shown
