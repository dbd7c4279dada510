-- Lists in a strict order, and how many of their elements stand before a place.
use Rattle.std.proofs.Common.{◌≡◌, ℕ, zero, suc, ◌+◌, ◌<◌, ◌≤◌, Bool, true, false, cond, List, [], ◌∷◌, ◌++◌, length, get_or, take, drop, refl, ap, sym, subst, ◌∙◌, arith, zero-add}
use Rattle.std.specs.Prelude.{count_by}
use Rattle.std.specs.List.{AllByRecursion, AllWithin}
use Rattle.std.specs.List.Sorted.{IsStrictlySortedBy, IsPartitionedBy}
use Rattle.std.specs.declared.cmp.Ordering.{Ordering}
use Rattle.std.specs.declared.cmp.Ordering.TheVariants.{Less, Equal, Greater}
use Rattle.std.specs.Ordering.{is_lt}
use Rattle.std.specs.Cmp.{IsTotalOrder, tied_itself}
use Rattle.std.proofs.lemmas.List.Sums.{sum_by-cons}

pub less_is : (o : Ordering) → is_lt o ≡ true → o ≡ Less
less_is Less e = refl
less_is Equal e = cc
less_is Greater e = cc

-- how many pass a test, with one more in front
pub count-cons : {X : Type 0} (p : X → Bool) (x : X) (xs : List X) → count_by p (x ∷ xs) ≡ cond (p x) 1 0 + count_by p xs
count-cons p x xs = sum_by-cons (λ y. cond (p y) 1 0) x xs

pub count_yes : {X : Type 0} (p : X → Bool) (x : X) (xs : List X) → p x ≡ true → count_by p (x ∷ xs) ≡ suc (count_by p xs)
count_yes p x xs e =
    let all : count_by p (x ∷ xs) ≡ 1 + count_by p xs = count-cons p x xs ∙ ap (λ b. cond b 1 0 + count_by p xs) e in
    omega (arith, all)

pub count_no : {X : Type 0} (p : X → Bool) (x : X) (xs : List X) → p x ≡ false → count_by p (x ∷ xs) ≡ count_by p xs
count_no p x xs e = count-cons p x xs ∙ ap (λ b. cond b 1 0 + count_by p xs) e ∙ zero-add (count_by p xs)

-- where a list is split by a test, the place is how many pass it
pub count_to_place : {X : Type 0} (p : X → Bool) (xs : List X) (i : ℕ) → i ≤ length xs → AllWithin (λ y. p y ≡ true) xs 0 i → AllWithin (λ y. p y ≡ false) xs i (length xs) → i ≡ count_by p xs
count_to_place p [] i within passes fails = omega arith
count_to_place p (x ∷ xs) zero within passes fails =
    let here : p x ≡ false = fails 0 x (omega arith) (omega arith) in
    let rest = count_to_place p xs zero (omega arith) (λ k d low high. absurd (omega arith)) (λ k d low high. fails (suc k) d (omega arith) (omega arith)) in
    rest ∙ sym (count_no p x xs here)
count_to_place p (x ∷ xs) (suc i) within passes fails =
    let here : p x ≡ true = passes 0 x (omega arith) (omega arith) in
    let rest : i ≡ count_by p xs = count_to_place p xs i (omega arith) (λ k d low high. passes (suc k) d (omega arith) (omega arith)) (λ k d low high. fails (suc k) d (omega arith) (omega arith)) in
    ap suc rest ∙ sym (count_yes p x xs here)

-- no element passes
pub count_none : {X : Type 0} (p : X → Bool) (xs : List X) → count_by p xs ≡ 0 → AllByRecursion (λ y. p y ≡ false) xs
count_none p [] e = tt
count_none p (x ∷ xs) e =
    elim (p x) as (λ b. p x ≡ b → (p x ≡ false) × AllByRecursion (λ y. p y ≡ false) xs) [
      | true ↦ λ t. absurd (omega (arith, count_yes p x xs t))
      | false ↦ λ t. (t, count_none p xs (sym (count_no p x xs t) ∙ e))
    ] refl

-- some element passes
pub count_some : {X : Type 0} (p : X → Bool) (xs : List X) → 0 < count_by p xs → (j : ℕ) × (j < length xs) × ((d : X) → p (get_or xs j d) ≡ true)
count_some p [] some = absurd (omega arith)
count_some {X = X} p (x ∷ xs) some =
    elim (p x) as (λ b. p x ≡ b → (j : ℕ) × (j < length (x ∷ xs)) × ((d : X) → p (get_or (x ∷ xs) j d) ≡ true)) [
      | true ↦ λ t. (0, omega arith, λ d. t)
      | false ↦ λ t.
          let rest = count_some p xs (omega (arith, count_no p x xs t)) in
          (suc rest.0, omega (arith, rest.1), rest.2)
    ] refl

all_past : {X : Type 0} (P : X → Type 0) (a b : List X) (y : X) → P y → AllByRecursion P (a ++ b) → AllByRecursion P (a ++ y ∷ b)
all_past P [] b y h all = (h, all)
all_past P (z ∷ a) b y h all = (all.0, all_past P a b y h all.1)

all_but : {X : Type 0} (P : X → Type 0) (a b : List X) (y : X) → AllByRecursion P (a ++ y ∷ b) → AllByRecursion P (a ++ b)
all_but P [] b y all = all.1
all_but P (z ∷ a) b y all = (all.0, all_but P a b y all.1)

module _ {X : Type 0} (R : X → X → Ordering) where
  pub sorted_with : (a b : List X) (y : X) → IsStrictlySortedBy R (a ++ b) → AllByRecursion (λ z. R z y ≡ Less) a → AllByRecursion (λ z. R y z ≡ Less) b → IsStrictlySortedBy R (a ++ y ∷ b)
  unfolding IsStrictlySortedBy
  sorted_with [] b y s below above = (above, s)
  sorted_with (z ∷ a) b y s below above = (all_past (λ w. R z w ≡ Less) a b y below.0 s.0, sorted_with a b y s.1 below.1 above)

  pub sorted_without : (a b : List X) (y : X) → IsStrictlySortedBy R (a ++ y ∷ b) → IsStrictlySortedBy R (a ++ b)
  unfolding IsStrictlySortedBy
  sorted_without [] b y s = s.1
  sorted_without (z ∷ a) b y s = (all_but (λ w. R z w ≡ Less) a b y s.0, sorted_without a b y s.1)

  pub later_at : (x : X) (ys : List X) (j : ℕ) (d : X) → AllByRecursion (λ y. R x y ≡ Less) ys → j < length ys → R x (get_or ys j d) ≡ Less
  later_at x [] j d h within = absurd (omega arith)
  later_at x (y ∷ ys) zero d h within = h.0
  later_at x (y ∷ ys) (suc j) d h within = later_at x ys j d h.1 (omega arith)

  -- a place in the order: f says of each element whether it stands before
  module _ (f : X → Ordering) (down : (y z : X) → R y z ≡ Less → f z ≡ Less → f y ≡ Less) where
    -- what is before the place stands in front
    pub front_first : (ys : List X) → IsStrictlySortedBy R ys → IsPartitionedBy (λ y. is_lt (f y)) ys
    unfolding IsStrictlySortedBy
    front_first [] s i j d le within h = absurd (omega arith)
    front_first (y ∷ ys) s zero zero d le within h = h
    front_first (y ∷ ys) s zero (suc j) d le within h =
        ap is_lt (down y (get_or ys j d) (later_at y ys j d s.0 (omega arith)) (less_is _ h))
    front_first (y ∷ ys) s (suc i) zero d le within h = absurd (omega arith)
    front_first (y ∷ ys) s (suc i) (suc j) d le within h = front_first ys s.1 i j d (omega arith) (omega arith) h

    -- none of what follows y is before the place, where y isn't
    pub none_later : (y : X) (ys : List X) → AllByRecursion (λ z. R y z ≡ Less) ys → is_lt (f y) ≡ false → (count_by (λ z. is_lt (f z)) ys ≡ 0) × AllByRecursion (λ z. is_lt (f z) ≡ false) ys
    none_later y [] h later = (refl, tt)
    none_later y (z ∷ zs) h later =
        let rest = none_later y zs h.1 later in
        let here : is_lt (f z) ≡ false =
        elim (f z) as (λ r. f z ≡ r → is_lt r ≡ false) [
          | Less ↦ λ e. sym (ap is_lt (down y z h.0 e)) ∙ later
          | Equal ↦ λ e. refl
          | Greater ↦ λ e. refl
        ] refl in
        (count_no (λ w. is_lt (f w)) z zs here ∙ rest.0, (here, rest.1))

    pub none_before : (y : X) (ys : List X) → IsStrictlySortedBy R (y ∷ ys) → is_lt (f y) ≡ false → count_by (λ z. is_lt (f z)) (y ∷ ys) ≡ 0
    unfolding IsStrictlySortedBy
    none_before y ys s e = count_no (λ z. is_lt (f z)) y ys e ∙ (none_later y ys s.0 e).0

    -- the place splits the list into what is before and what isn't
    pub split_at : (ys : List X) → IsStrictlySortedBy R ys → let n = count_by (λ z. is_lt (f z)) ys in AllByRecursion (λ z. f z ≡ Less) (take n ys) × AllByRecursion (λ z. is_lt (f z) ≡ false) (drop n ys)
    unfolding IsStrictlySortedBy
    split_at [] s = (tt, tt)
    split_at (y ∷ ys) s =
        let P : ℕ → Type 0 = λ n. AllByRecursion (λ z. f z ≡ Less) (take n (y ∷ ys)) × AllByRecursion (λ z. is_lt (f z) ≡ false) (drop n (y ∷ ys)) in
        elim (is_lt (f y)) as (λ b. is_lt (f y) ≡ b → P (count_by (λ z. is_lt (f z)) (y ∷ ys))) [
          | true ↦ λ e.
              let rest = split_at ys s.1 in
              subst P (sym (count_yes (λ z. is_lt (f z)) y ys e)) ((less_is _ e, rest.0), rest.1)
          | false ↦ λ e.
              let none = none_later y ys s.0 e in
              subst P (sym (count_no (λ z. is_lt (f z)) y ys e ∙ none.0)) (tt, (e, none.1))
        ] refl

  module _ (o : IsTotalOrder R) where
    -- an element of the list stands at its place
    pub found_place : (x : X) (ys : List X) (j : ℕ) → IsStrictlySortedBy R ys → j < length ys → ((d : X) → get_or ys j d ≡ x) → let n = count_by (λ z. is_lt (R z x)) ys in (n < length ys) × ((d : X) → get_or ys n d ≡ x)
    unfolding IsStrictlySortedBy
    found_place x [] j s within is = absurd (omega arith)
    found_place x (y ∷ ys) zero s within is =
        let P : ℕ → Type 0 = λ n. (n < length (y ∷ ys)) × ((d : X) → get_or (y ∷ ys) n d ≡ x) in
        let here : is_lt (R y x) ≡ false = ap (λ z. is_lt (R z x)) (is y) ∙ ap is_lt (tied_itself o x) in
        let none = none_later (λ z. R z x) (λ y z e h. o.trans y z x e h) y ys s.0 here in
        subst P (sym (count_no (λ z. is_lt (R z x)) y ys here ∙ none.0)) (omega arith, is)
    found_place x (y ∷ ys) (suc j) s within is =
        let P : ℕ → Type 0 = λ n. (n < length (y ∷ ys)) × ((d : X) → get_or (y ∷ ys) n d ≡ x) in
        let first : R y x ≡ Less = ap (R y) (sym (is y)) ∙ later_at y ys j y s.0 (omega arith) in
        let rest = found_place x ys j s.1 (omega arith) is in
        subst P (sym (count_yes (λ z. is_lt (R z x)) y ys (ap is_lt first))) (omega (arith, rest.0), rest.1)
