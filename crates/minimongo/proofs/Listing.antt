-- Keys that are listed under simulations.
use Rattle.std.proofs.Common.{◌≡◌, ℕ, arith, suc, ◌+◌, ◌<◌, get_or, drop, length, Bool, true, false, cond, ◌||◌, List, [], ◌∷◌, ◌++◌, Some, None, unwrap_or, refl, sym, ap, ◌∙◌, nat_cmp}
use Rattle.std.specs.List.{dedup, dedup_from}
use Rattle.std.specs.Ordering.{eq_by_cmp, is_eq}
use Rattle.std.specs.BTreeSet.{BTreeSet, contains}
use Rattle.std.proofs.Math.Seq.{drop-cons}
use Rattle.std.proofs.lemmas.Grind.{get_or_default_zero}
use Rattle.std.proofs.lemmas.Cmp.{nat_cmp_total, eq_by_cmp_equiv}
use Rattle.map_model.specs.Maps.{at}
use Rattle.map_model.specs.MapLaws.{key_is, eq_by_cmp-self}
use Rattle.view_model.specs.Pending.{is_among}
use Rattle.view_model.specs.PendingLaws.{number_order}
use Rattle.ejson_value.specs.declared.key.Key.{Key}
use Rattle.ejson_value.specs.Key.{key_cmp, key_order}
use Rattle.minimongo.specs.Index.{Lists, is_key_among, is_listed, is_listed_by}

-- new is old, with `keys` for the simulation
module _ (old new : Lists) (number : ℕ) (keys : List Key) (change : (n : ℕ) → at nat_cmp new n ≡ cond (eq_by_cmp nat_cmp number n) (Some keys) (at nat_cmp old n)) where
  listed_after : (n : ℕ) (k : Key) → is_listed new n k ≡ cond (eq_by_cmp nat_cmp number n) (is_key_among keys k) (is_listed old n k)
  listed_after n k =
      ap (λ x. is_key_among (unwrap_or x []) k) (change n)
      ∙ elim (eq_by_cmp nat_cmp number n) as (λ b. is_key_among (unwrap_or (cond b (Some keys) (at nat_cmp old n)) []) k ≡ cond b (is_key_among keys k) (is_listed old n k)) [ true ↦ refl | false ↦ refl ]

  pub listed_here : (k : Key) → is_key_among keys k ≡ true → is_listed new number k ≡ true
  listed_here k h = listed_after number k ∙ ap (λ b. cond b (is_key_among keys k) (is_listed old number k)) (eq_by_cmp-self number_order number) ∙ h

  -- what was listed stays where the simulation's keys stay
  pub listed_stays : ((k : Key) → is_listed old number k ≡ true → is_key_among keys k ≡ true) → (n : ℕ) (k : Key) → is_listed old n k ≡ true → is_listed new n k ≡ true
  listed_stays stays n k was = listed_after n k ∙ elim (eq_by_cmp nat_cmp number n) as (λ b. eq_by_cmp nat_cmp number n ≡ b → cond b (is_key_among keys k) (is_listed old n k) ≡ true) [
    | true ↦ λ t. stays k (ap (λ r. is_listed old r k) (key_is number_order number n t) ∙ was)
    | false ↦ λ _. was
  ] refl

-- a simulation with no keys
pub nothing_listed : (lists : Lists) (number : ℕ) → at nat_cmp lists number ≡ None → (k : Key) → is_listed lists number k ≡ false
nothing_listed lists number none k = ap (λ x. is_key_among (unwrap_or x []) k) none

-- the keys that are found for a simulation
pub found_listed : (lists : Lists) (number : ℕ) (keys : List Key) → Some keys ≡ at nat_cmp lists number → (k : Key) → is_listed lists number k ≡ is_key_among keys k
found_listed lists number keys found k = ap (λ x. is_key_among (unwrap_or x []) k) (sym found)

-- new is old without the simulation's keys
pub others_listed : (old new : Lists) (number : ℕ) → ((n : ℕ) → at nat_cmp new n ≡ cond (eq_by_cmp nat_cmp number n) None (at nat_cmp old n))
    → (n : ℕ) (k : Key) → eq_by_cmp nat_cmp number n ≡ false → is_listed new n k ≡ is_listed old n k
others_listed old new number change n k other = ap (λ x. is_key_among (unwrap_or x []) k) (change n ∙ ap (λ b. cond b None (at nat_cmp old n)) other)

-- ---- a key behind others

swapped : (a b c : Bool) → (a || (b || c)) ≡ (b || (a || c))
swapped true true c = refl
swapped true false c = refl
swapped false b c = refl

pub among_pushed : (keys : List Key) (key k : Key) → is_key_among (keys ++ key ∷ []) k ≡ (eq_by_cmp key_cmp k key || is_key_among keys k)
among_pushed [] key k = refl
among_pushed (x ∷ keys) key k = ap (λ b. eq_by_cmp key_cmp k x || b) (among_pushed keys key k) ∙ swapped (eq_by_cmp key_cmp k x) (eq_by_cmp key_cmp k key) (is_key_among keys k)

either_true : (a b : Bool) → b ≡ true → (a || b) ≡ true
either_true true b h = refl
either_true false b h = h

pub pushed_here : (keys : List Key) (key : Key) → is_key_among (keys ++ key ∷ []) key ≡ true
pushed_here keys key = among_pushed keys key key ∙ ap (λ b. b || is_key_among keys key) (eq_by_cmp-self key_order key)

pub pushed_stays : (keys : List Key) (key k : Key) → is_key_among keys k ≡ true → is_key_among (keys ++ key ∷ []) k ≡ true
pushed_stays keys key k h = among_pushed keys key k ∙ either_true (eq_by_cmp key_cmp k key) (is_key_among keys k) h

-- ---- walks that put keys or numbers among others

pub number_either_way : (m n : ℕ) → is_eq (nat_cmp m n) ≡ eq_by_cmp nat_cmp n m
number_either_way m n = (eq_by_cmp_equiv nat_cmp_total).symm m n

shuffled : (e r a : Bool) → (r || cond e true a) ≡ ((e || r) || a)
shuffled true true a = refl
shuffled true false a = refl
shuffled false r a = refl

pub next_of : {X : Type 0} (items : List X) (i : ℕ) (item : X) → item ≡ get_or items i item → i < length items → drop i items ≡ item ∷ drop (i + 1) items
next_of items i item is within = drop-cons items i item within ∙ ap (λ x. x ∷ drop (suc i) items) (sym is) ∙ (let e : suc i ≡ i + 1 = omega arith in ap (λ k. item ∷ drop k items) e)

-- one more number of the walk is put
pub number_put : (items : List ℕ) (i item : ℕ) (all all' : BTreeSet ℕ) → item ≡ get_or items i item → i < length items → ((q : ℕ) → contains nat_cmp all' q ≡ cond (is_eq (nat_cmp item q)) true (contains nat_cmp all q))
    → (n : ℕ) → (is_among (drop (i + 1) items) n || contains nat_cmp all' n) ≡ (is_among (drop i items) n || contains nat_cmp all n)
number_put items i item all all' is within updates n =
    ap (λ b. is_among (drop (i + 1) items) n || b) (updates n ∙ ap (λ b. cond b true (contains nat_cmp all n)) (number_either_way item n))
    ∙ shuffled (eq_by_cmp nat_cmp n item) (is_among (drop (i + 1) items) n) (contains nat_cmp all n)
    ∙ ap (λ ns. is_among ns n || contains nat_cmp all n) (sym (next_of items i item is within))

shuffled_or : (e r a : Bool) → (r || (e || a)) ≡ ((e || r) || a)
shuffled_or true true a = refl
shuffled_or true false a = refl
shuffled_or false r a = refl

-- one more key of the walk is put
pub key_pushed : (items : List Key) (i : ℕ) (item key : Key) (all all' : List Key) → item ≡ get_or items i item → i < length items → key ≡ item → all' ≡ all ++ key ∷ []
    → (k : Key) → (is_key_among (drop (i + 1) items) k || is_key_among all' k) ≡ (is_key_among (drop i items) k || is_key_among all k)
key_pushed items i item key all all' is within same made k =
    ap (λ b. is_key_among (drop (i + 1) items) k || b) (ap (λ ks. is_key_among ks k) (made ∙ ap (λ q. all ++ q ∷ []) same) ∙ among_pushed all item k)
    ∙ shuffled_or (eq_by_cmp key_cmp k item) (is_key_among (drop (i + 1) items) k) (is_key_among all k)
    ∙ ap (λ ks. is_key_among ks k || is_key_among all k) (sym (next_of items i item is within))

-- the keys of one more simulation are put
pub listed_put : (lists : Lists) (numbers rest : List ℕ) (number : ℕ) (all all' : List Key) → numbers ≡ number ∷ rest → ((q : Key) → is_key_among all' q ≡ (is_listed lists number q || is_key_among all q))
    → (k : Key) → (is_listed_by lists rest k || is_key_among all' k) ≡ (is_listed_by lists numbers k || is_key_among all k)
listed_put lists numbers rest number all all' steps updates k =
    ap (λ b. is_listed_by lists rest k || b) (updates k)
    ∙ shuffled_or (is_listed lists number k) (is_listed_by lists rest k) (is_key_among all k)
    ∙ ap (λ ns. is_listed_by lists ns k || is_key_among all k) (sym steps)

-- the same for a number that is read
pub number_next : (items : List ℕ) (i : ℕ) (all all' : BTreeSet ℕ) → i < length items → ((q : ℕ) → contains nat_cmp all' q ≡ cond (is_eq (nat_cmp (get_or items i 0) q)) true (contains nat_cmp all q))
    → (n : ℕ) → (is_among (drop (i + 1) items) n || contains nat_cmp all' n) ≡ (is_among (drop i items) n || contains nat_cmp all n)
number_next items i all all' within updates n = number_put items i (get_or items i 0) all all' (sym (get_or_default_zero items i (get_or items i 0) within)) within updates n

-- ---- each key once

once_more : (b c : Bool) → (b || c) ≡ (b || (b || c))
once_more true c = refl
once_more false c = refl

-- what `dedup` leaves has the same keys, where equal ones tie
module _ (same : Key → Key → Bool) (ties : (a b : Key) → same a b ≡ eq_by_cmp key_cmp a b) (k : Key) where
  among_dedup_from : (first : Key) (keys : List Key) → is_key_among (dedup_from same first keys) k ≡ is_key_among (first ∷ keys) k
  among_dedup_from first [] = refl
  among_dedup_from first (key ∷ keys) =
      let here = among_dedup_from first keys in
      let next = among_dedup_from key keys in
      elim (same key first) as (λ b. same key first ≡ b → is_key_among (cond b (dedup_from same first keys) (first ∷ dedup_from same key keys)) k ≡ is_key_among (first ∷ key ∷ keys) k) [
        | true ↦ λ t. here ∙ once_more (eq_by_cmp key_cmp k first) (is_key_among keys k) ∙ ap (λ q. eq_by_cmp key_cmp k first || (eq_by_cmp key_cmp k q || is_key_among keys k)) (sym (key_is key_order key first (sym (ties key first) ∙ t)))
        | false ↦ λ t. ap (λ b. eq_by_cmp key_cmp k first || b) next
      ] refl

  pub among_dedup : (keys : List Key) → is_key_among (dedup same keys) k ≡ is_key_among keys k
  among_dedup [] = refl
  among_dedup (key ∷ keys) = among_dedup_from key keys
