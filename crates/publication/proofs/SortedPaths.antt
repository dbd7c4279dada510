-- Paths in order: those that begin with a name stand side by side, and what paths leave of a value doesn't depend on their order.
use Rattle.std.specs.Prelude.{map, slice_get, not, if◌then◌else◌}
use Rattle.std.specs.List.{list_any, cons_option, AllByRecursion}
use Rattle.std.specs.Ordering.{is_lt, is_le, ordering_then, ordering_reverse}
use Rattle.std.specs.declared.cmp.Ordering.{Ordering}
use Rattle.std.specs.declared.cmp.Ordering.TheVariants.{Less, Equal, Greater}
use Rattle.std.specs.Cmp.{tied_itself}
use Rattle.std.specs.List.Sorted.{IsPartitionedBy, IsPermutation}
use borrow.Author.Tests.{tests}
use Rattle.std.proofs.Common.{rules, ◌≡◌, ℕ, zero, suc, ◌+◌, ◌≤◌, ◌<◌, Bool, true, false, ◌||◌, List, [], ◌∷◌, length, leb, length-drop, get_or, take, drop, Option, None, Some, refl, ap, sym, ◌∙◌, arith}
use Rattle.std.proofs.lemmas.List.Sorted.{list_any-IsPermutation}
use Rattle.std.proofs.lemmas.Map.Lookups.{exact_bytes}
use Rattle.std.proofs.lemmas.Cmp.{nat_list_cmp_total}
use Rattle.std.proofs.lemmas.Bool.Decides.{nat_tests}
use Rattle.std.proofs.lemmas.Slice.Eq.{bytes_eq-Decides}
use Rattle.value_model.specs.Val.{Val, list, object, Vals, no_vals, val, Fields, no_fields, field}
use Rattle.value_model.specs.Order.{text_cmp}
use Rattle.value_model.specs.Size.{is_name}
use Rattle.app_model.specs.Fields.{path_cmp, SameTests}
use Rattle.publication.specs.Parts.{below, is_before, is_upto, IsRising, AreLonger}
use Rattle.publication.specs.Projected.{APath, rest_below, rests_below, is_end, ends_here, reaches_nothing, whole_if, field_projected, element_before, field_before, value_projected, elements_projected, fields_projected}

-- the order of names

not_less : (o : Ordering) → is_lt o ≡ false → is_le (ordering_reverse o) ≡ true
not_less Less e = cc
not_less Equal e = refl
not_less Greater e = refl

le_flipped : (a b : List ℕ) → is_lt (text_cmp b a) ≡ false → is_le (text_cmp a b) ≡ true
le_flipped a b e = ap is_le (nat_list_cmp_total.antisymm a b) ∙ not_less (text_cmp b a) e

less_is : (o : Ordering) → is_lt o ≡ true → o ≡ Less
less_is Less e = refl
less_is Equal e = cc
less_is Greater e = cc

le_then_lt : (a b n : List ℕ) → is_le (text_cmp a b) ≡ true → is_lt (text_cmp b n) ≡ true → is_lt (text_cmp a n) ≡ true
le_then_lt a b n first second =
    elim (text_cmp a b) as (λ o. text_cmp a b ≡ o → is_le o ≡ true → is_lt (text_cmp a n) ≡ true) [
      | Less ↦ λ e h. ap is_lt (nat_list_cmp_total.trans a b n e (less_is (text_cmp b n) second))
      | Equal ↦ λ e h. ap is_lt (nat_list_cmp_total.congr a b n e) ∙ second
      | Greater ↦ λ e h. cc
    ] refl first

le_then_equal : (a b n : List ℕ) → text_cmp b n ≡ Equal → text_cmp a n ≡ text_cmp a b
le_then_equal a b n e =
    nat_list_cmp_total.antisymm a n ∙ (ap ordering_reverse (sym (nat_list_cmp_total.congr b n a e)) ∙ sym (nat_list_cmp_total.antisymm a b))

le_then_le : (a b n : List ℕ) → is_le (text_cmp a b) ≡ true → is_le (text_cmp b n) ≡ true → is_le (text_cmp a n) ≡ true
le_then_le a b n first second =
    elim (text_cmp a b) as (λ o. text_cmp a b ≡ o → is_le o ≡ true → is_le (text_cmp a n) ≡ true) [
      | Less ↦ λ e h. elim (text_cmp b n) as (λ o. text_cmp b n ≡ o → is_le o ≡ true → is_le (text_cmp a n) ≡ true) [
        | Less ↦ λ f k. ap is_le (nat_list_cmp_total.trans a b n e f)
        | Equal ↦ λ f k. ap is_le (le_then_equal a b n f) ∙ first
        | Greater ↦ λ f k. cc
      ] refl second
      | Equal ↦ λ e h. ap is_le (nat_list_cmp_total.congr a b n e) ∙ second
      | Greater ↦ λ e h. cc
    ] refl first

-- the order of paths

heads : (o p : Ordering) → is_lt (ordering_then o p) ≡ false → is_lt o ≡ false
heads Less p e = e
heads Equal p e = refl
heads Greater p e = refl

pub before_down : (name : List ℕ) (q r : APath) → is_lt (path_cmp r q) ≡ false → is_before name r ≡ true → is_before name q ≡ true
before_down name [] r h e = refl
before_down name (a ∷ q) [] h e = cc
before_down name (a ∷ q) (b ∷ r) h e = le_then_lt a b name (le_flipped a b (heads (text_cmp b a) (path_cmp r q) h)) e

pub upto_down : (name : List ℕ) (q r : APath) → is_lt (path_cmp r q) ≡ false → is_upto name r ≡ true → is_upto name q ≡ true
upto_down name [] r h e = refl
upto_down name (a ∷ q) [] h e = cc
upto_down name (a ∷ q) (b ∷ r) h e = le_then_le a b name (le_flipped a b (heads (text_cmp b a) (path_cmp r q) h)) e

before_none : (name : List ℕ) (q : APath) → is_before name q ≡ true → rest_below name q ≡ None
before_none name [] e = refl
before_none name (a ∷ q) e =
    elim (is_name a name) as (λ b. is_name a name ≡ b → (if b then Some q else None) ≡ None) [
      | true ↦ λ is.
          let same : a ≡ name = (bytes_eq-Decides a name).0 is in
          let tied : text_cmp a name ≡ Equal = ap (λ x. text_cmp x name) same ∙ tied_itself nat_list_cmp_total name in
          let less : text_cmp a name ≡ Less = less_is (text_cmp a name) e in
          cc
      | false ↦ λ is. refl
    ] refl

after_none : (name : List ℕ) (q : APath) → is_upto name q ≡ false → rest_below name q ≡ None
after_none name [] e = cc
after_none name (a ∷ q) e =
    elim (is_name a name) as (λ b. is_name a name ≡ b → (if b then Some q else None) ≡ None) [
      | true ↦ λ is.
          let same : a ≡ name = (bytes_eq-Decides a name).0 is in
          let tied : is_le (text_cmp a name) ≡ true = ap (λ x. is_le (text_cmp x name)) same ∙ ap is_le (tied_itself nat_list_cmp_total name) in
          cc
      | false ↦ λ is. refl
    ] refl

neither_side : (o : Ordering) → is_lt o ≡ false → is_le o ≡ true → o ≡ Equal
neither_side Less e f = cc
neither_side Equal e f = refl
neither_side Greater e f = cc

-- a path that begins with the name
abbrev Begins : List ℕ → APath → Type 0
Begins name q = (is_before name q ≡ false) × (is_upto name q ≡ true)

part_is : (name a : List ℕ) (q : APath) → Begins name (a ∷ q) → a ≡ name
part_is name a q h = exact_bytes a name (neither_side (text_cmp a name) h.0 h.1)

begins_rest : (name : List ℕ) (q : APath) → Begins name q → rest_below name q ≡ Some (drop 1 q)
begins_rest name [] h = absurd (cc h.0)
begins_rest name (a ∷ q) h = ap (λ b. if b then Some q else None) ((bytes_eq-Decides a name).1 (part_is name a q h))

begins_longer : (name : List ℕ) (q : APath) → is_before name q ≡ false → 0 < length q
begins_longer name [] h = absurd (cc h)
begins_longer name (a ∷ q) h = omega arith

-- lists by index

pub all_at : {X : Type 0} (P : APath → Type 0) (f : X → APath) (xs : List X) (k : ℕ) (d : X) → AllByRecursion P (map f xs) → k < length xs → P (f (get_or xs k d))
all_at P f [] k d all h = absurd (omega (arith, h))
all_at P f (x ∷ xs) zero d all h = all.0
all_at P f (x ∷ xs) (suc k) d all h = let h' : k < length xs = omega (arith, h) in all_at P f xs k d all.1 h'

pub all_from : {X : Type 0} (P : APath → Type 0) (f : X → APath) (xs : List X) → ((k : ℕ) (d : X) → k < length xs → P (f (get_or xs k d))) → AllByRecursion P (map f xs)
all_from P f [] h = tt
all_from P f (x ∷ xs) h = (h 0 x (omega arith), all_from P f xs (λ k d below. h (suc k) d (omega (arith, below))))

pub by_rising : {X : Type 0} (f : X → APath) (test : APath → Bool) (down : (q r : APath) → is_lt (path_cmp r q) ≡ false → test r ≡ true → test q ≡ true) (xs : List X) → IsRising (map f xs) → IsPartitionedBy (λ x. test (f x)) xs
by_rising f test down [] up i j d within below is = absurd (omega (arith, below))
by_rising f test down (x ∷ xs) up zero zero d within below is = is
by_rising f test down (x ∷ xs) up zero (suc j) d within below is =
    let below' : j < length xs = omega (arith, below) in
    down (f x) (f (get_or xs j d)) (all_at (λ q. is_lt (path_cmp q (f x)) ≡ false) f xs j d up.0 below') is
by_rising f test down (x ∷ xs) up (suc i) zero d within below is = absurd (omega (arith, within))
by_rising f test down (x ∷ xs) up (suc i) (suc j) d within below is =
    let below' : j < length xs = omega (arith, below) in
    let within' : i ≤ j = omega (arith, within) in
    by_rising f test down xs up.1 i j d within' below' is

pub rising_from : {X : Type 0} (f : X → APath) (xs : List X) → ((i j : ℕ) (d : X) → i ≤ j → j < length xs → is_lt (path_cmp (f (get_or xs j d)) (f (get_or xs i d))) ≡ false) → IsRising (map f xs)
rising_from f [] h = tt
rising_from f (x ∷ xs) h = (
  all_from (λ q. is_lt (path_cmp q (f x)) ≡ false) f xs (λ k d below. h 0 (suc k) d (omega arith) (omega (arith, below))),
  rising_from f xs (λ i j d within below. h (suc i) (suc j) d (omega (arith, within)) (omega (arith, below))),
)

-- those before the name are passed over

pub passed_over : {X : Type 0} (name : List ℕ) (f : X → APath) (xs : List X) (i : ℕ) → ((k : ℕ) (d : X) → k < i → is_before name (f (get_or xs k d)) ≡ true) → rests_below name (map f (drop i xs)) ≡ rests_below name (map f xs)
passed_over name f [] zero h = refl
passed_over name f [] (suc i) h = refl
passed_over name f (x ∷ xs) zero h = refl
passed_over name f (x ∷ xs) (suc i) h =
    passed_over name f xs i (λ k d below. h (suc k) d (omega (arith, below)))
    ∙ ap (λ o. cons_option o (rests_below name (map f xs))) (sym (before_none name (f x) (h 0 x (omega arith))))

pub none_left : {X : Type 0} (name : List ℕ) (f : X → APath) (xs : List X) (i : ℕ) → ((k : ℕ) (d : X) → i ≤ k → k < length xs → is_before name (f (get_or xs k d)) ≡ false) → AllByRecursion (λ q. is_before name q ≡ false) (map f (drop i xs))
none_left name f [] zero h = tt
none_left name f [] (suc i) h = tt
none_left name f (x ∷ xs) zero h = all_from (λ q. is_before name q ≡ false) f (x ∷ xs) (λ k d below. h k d (omega arith) below)
none_left name f (x ∷ xs) (suc i) h = none_left name f xs i (λ k d within below. h (suc k) d (omega (arith, within)) (omega (arith, below)))

pub rising-drop : {X : Type 0} (f : X → APath) (xs : List X) (i : ℕ) → IsRising (map f xs) → IsRising (map f (drop i xs))
rising-drop f [] zero up = tt
rising-drop f [] (suc i) up = tt
rising-drop f (x ∷ xs) zero up = up
rising-drop f (x ∷ xs) (suc i) up = rising-drop f xs i up.1

-- and the first of the others, which are no greater, begin with it

abbrev pub tails : List APath → List APath
tails qs = map (λ (q : APath). drop 1 q) qs

pub begin_taken : {X : Type 0} (name : List ℕ) (f : X → APath) (xs : List X) (i : ℕ) → AllByRecursion (λ q. is_before name q ≡ false) (map f xs) → ((k : ℕ) (d : X) → k < i → is_upto name (f (get_or xs k d)) ≡ true) → AllByRecursion (Begins name) (map f (take i xs))
begin_taken name f [] zero none h = tt
begin_taken name f [] (suc i) none h = tt
begin_taken name f (x ∷ xs) zero none h = tt
begin_taken name f (x ∷ xs) (suc i) none h = ((none.0, h 0 x (omega arith)), begin_taken name f xs i none.1 (λ k d below. h (suc k) d (omega (arith, below))))

none_after : {X : Type 0} (name : List ℕ) (f : X → APath) (xs : List X) → ((k : ℕ) (d : X) → k < length xs → is_upto name (f (get_or xs k d)) ≡ false) → [] ≡ rests_below name (map f xs)
none_after name f [] h = refl
none_after name f (x ∷ xs) h =
    none_after name f xs (λ k d below. h (suc k) d (omega (arith, below)))
    ∙ ap (λ o. cons_option o (rests_below name (map f xs))) (sym (after_none name (f x) (h 0 x (omega arith))))

pub taken : {X : Type 0} (name : List ℕ) (f : X → APath) (xs : List X) (i : ℕ) → AllByRecursion (λ q. is_before name q ≡ false) (map f xs) → ((k : ℕ) (d : X) → k < i → is_upto name (f (get_or xs k d)) ≡ true) →
    ((k : ℕ) (d : X) → i ≤ k → k < length xs → is_upto name (f (get_or xs k d)) ≡ false) → tails (map f (take i xs)) ≡ rests_below name (map f xs)
taken name f [] zero none h g = refl
taken name f [] (suc i) none h g = refl
taken name f (x ∷ xs) zero none h g = none_after name f (x ∷ xs) (λ k d below. g k d (omega arith) below)
taken name f (x ∷ xs) (suc i) none h g =
    ap (λ qs. drop 1 (f x) ∷ qs) (taken name f xs i none.1 (λ k d below. h (suc k) d (omega (arith, below))) (λ k d within below. g (suc k) d (omega (arith, within)) (omega (arith, below))))
    ∙ ap (λ o. cons_option o (rests_below name (map f xs))) (sym (begins_rest name (f x) (none.0, h 0 x (omega arith))))

pub longer : (name : List ℕ) (qs : List APath) → AllByRecursion (Begins name) qs → AreLonger qs
longer name [] h = tt
longer name (q ∷ qs) h = (begins_longer name q h.0.0, longer name qs h.1)

tail_less : (name : List ℕ) (q r : APath) → Begins name q → Begins name r → is_lt (path_cmp r q) ≡ false → is_lt (path_cmp (drop 1 r) (drop 1 q)) ≡ false
tail_less name [] r h g e = absurd (cc h.0)
tail_less name (a ∷ q) [] h g e = absurd (cc g.0)
tail_less name (a ∷ q) (b ∷ r) h g e =
    let same : b ≡ a = part_is name b r g ∙ sym (part_is name a q h) in
    let tied : text_cmp b a ≡ Equal = ap (λ x. text_cmp x a) same ∙ tied_itself nat_list_cmp_total a in
    sym (ap (λ o. is_lt (ordering_then o (path_cmp r q))) tied) ∙ e

tails_less : (name : List ℕ) (q : APath) (qs : List APath) → Begins name q → AllByRecursion (Begins name) qs → AllByRecursion (λ r. is_lt (path_cmp r q) ≡ false) qs → AllByRecursion (λ r. is_lt (path_cmp r (drop 1 q)) ≡ false) (tails qs)
tails_less name q [] h g e = tt
tails_less name q (r ∷ qs) h g e = (tail_less name q r h g.0 e.0, tails_less name q qs h g.1 e.1)

pub rising-tails : (name : List ℕ) (qs : List APath) → AllByRecursion (Begins name) qs → IsRising qs → IsRising (tails qs)
rising-tails name [] h up = tt
rising-tails name (q ∷ qs) h up = (tails_less name q qs h.0 h.1 up.0, rising-tails name qs h.1 up.1)

all-take : {X : Type 0} (P : APath → Type 0) (f : X → APath) (xs : List X) (i : ℕ) → AllByRecursion P (map f xs) → AllByRecursion P (map f (take i xs))
all-take P f [] zero h = tt
all-take P f [] (suc i) h = tt
all-take P f (x ∷ xs) zero h = tt
all-take P f (x ∷ xs) (suc i) h = (h.0, all-take P f xs i h.1)

pub rising-take : {X : Type 0} (f : X → APath) (xs : List X) (i : ℕ) → IsRising (map f xs) → IsRising (map f (take i xs))
rising-take f [] zero up = tt
rising-take f [] (suc i) up = tt
rising-take f (x ∷ xs) zero up = tt
rising-take f (x ∷ xs) (suc i) up = (all-take (λ q. is_lt (path_cmp q (f x)) ≡ false) f xs i up.0, rising-take f xs i up.1)

-- levels

pub drop_one : (n : ℕ) (p : APath) → drop 1 (drop n p) ≡ drop (n + 1) p
drop_one zero [] = refl
drop_one zero (a ∷ p) = refl
drop_one (suc n) [] = let e : suc n + 1 ≡ suc (n + 1) = omega arith in ap (λ m. drop m []) (sym e)
drop_one (suc n) (a ∷ p) = let e : suc n + 1 ≡ suc (n + 1) = omega arith in drop_one n p ∙ ap (λ m. drop m (a ∷ p)) (sym e)

pub below-tails : (n : ℕ) (ps : List APath) → below (n + 1) ps ≡ tails (below n ps)
below-tails n [] = refl
below-tails n (p ∷ ps) = ap (λ q. q ∷ below (n + 1) ps) (sym (drop_one n p)) ∙ ap (λ qs. drop 1 (drop n p) ∷ qs) (below-tails n ps)

pub below-zero : (ps : List APath) → below 0 ps ≡ ps
below-zero [] = refl
below-zero (p ∷ ps) = ap (λ qs. p ∷ qs) (below-zero ps)

pub below_by : {X : Type 0} (g : X → APath) (n : ℕ) (xs : List X) → below n (map g xs) ≡ map (λ x. drop n (g x)) xs
below_by g n [] = refl
below_by g n (x ∷ xs) = ap (λ qs. drop n (g x) ∷ qs) (below_by g n xs)

-- an ended path comes first

not_end : (b : List ℕ) (r : APath) → is_end (b ∷ r) ≡ false
not_end b r = search (rules, tests)

or_false : (b : Bool) → (b || false) ≡ b
or_false true = refl
or_false false = refl

no_end : (a : List ℕ) (q : APath) (qs : List APath) → AllByRecursion (λ r. is_lt (path_cmp r (a ∷ q)) ≡ false) qs → list_any (λ r. is_end r) qs ≡ false
no_end a q [] h = refl
no_end a q ([] ∷ qs) h = absurd (cc h.0)
no_end a q ((b ∷ r) ∷ qs) h = ap (λ x. x || list_any (λ r. is_end r) qs) (not_end b r) ∙ no_end a q qs h.1

pub first_ends : (q : APath) (qs : List APath) → IsRising (q ∷ qs) → ends_here (q ∷ qs) ≡ is_end q
first_ends [] qs up = refl
first_ends (a ∷ q) qs up = ap (λ b. is_end (a ∷ q) || b) (no_end a q qs up.0) ∙ or_false (is_end (a ∷ q))

ends_at : (n : ℕ) (p : APath) → leb (length p) n ≡ is_end (drop n p)
ends_at n p = rw length-drop (grind (arith, nat_tests))

pub first_ends_at : {X : Type 0} (g : X → APath) (n : ℕ) (xs : List X) (x : X) → slice_get xs 0 ≡ Some x → IsRising (below n (map g xs)) → leb (length (g x)) n ≡ ends_here (below n (map g xs))
first_ends_at g n [] x is up = cc
first_ends_at g n (y ∷ xs) x is up =
    let same : y ≡ x = cc in
    ap (λ z. leb (length (g z)) n) (sym same) ∙ (ends_at n (g y) ∙ sym (first_ends (drop n (g y)) (below n (map g xs)) up))

-- paths that pass the same tests leave the same

abbrev passes : (APath → Bool) → Option APath → Bool
passes test None = false
passes test (Some q) = test q

any_rests : (name : List ℕ) (test : APath → Bool) (ps : List APath) → list_any test (rests_below name ps) ≡ list_any (λ p. passes test (rest_below name p)) ps
any_rests name test [] = refl
any_rests name test (p ∷ ps) =
    let rest = any_rests name test ps in
    elim (rest_below name p) as (λ o. list_any test (cons_option o (rests_below name ps)) ≡ (passes test o || list_any (λ p. passes test (rest_below name p)) ps)) [ None ↦ rest | Some q ↦ ap (λ b. test q || b) rest ]

same_rests : (name : List ℕ) (ps qs : List APath) → SameTests ps qs → SameTests (rests_below name ps) (rests_below name qs)
same_rests name ps qs same test = any_rests name test ps ∙ (same (λ p. passes test (rest_below name p)) ∙ sym (any_rests name test qs))

reaches_is : (ps : List APath) → reaches_nothing ps ≡ not (list_any (λ _. true) ps)
reaches_is [] = refl
reaches_is (p ∷ ps) = search (rules, tests)

same_field : (including : Bool) (ps qs : List APath) (v : Val) (w x : Option Val) → SameTests ps qs → w ≡ x → field_projected including ps v w ≡ field_projected including qs v x
same_field including ps qs v w x same is =
    ap (λ b. if b then whole_if including v else (if reaches_nothing ps then whole_if (not including) v else w)) (same (λ rest. is_end rest))
    ∙ (ap (λ b. if ends_here qs then whole_if including v else (if b then whole_if (not including) v else w)) (reaches_is ps ∙ (ap not (same (λ _. true)) ∙ sym (reaches_is qs)))
    ∙ ap (λ o. field_projected including qs v o) is)

mutual
  same_value : (including : Bool) (ps qs : List APath) (v : Val) → SameTests ps qs → value_projected including ps v ≡ value_projected including qs v
  same_value including ps qs (object fs) same = ap (λ r. Some (object r)) (same_left including ps qs fs same)
  same_value including ps qs (list vs) same = ap (λ r. Some (list r)) (same_elements including ps qs vs same)
  same_value including ps qs v same = refl

  same_elements : (including : Bool) (ps qs : List APath) (vs : Vals) → SameTests ps qs → elements_projected including ps vs ≡ elements_projected including qs vs
  same_elements including ps qs no_vals same = refl
  same_elements including ps qs (val v vs) same =
      ap (λ o. element_before o (elements_projected including ps vs)) (same_value including ps qs v same)
      ∙ ap (λ r. element_before (value_projected including qs v) r) (same_elements including ps qs vs same)

  pub same_left : (including : Bool) (ps qs : List APath) (fs : Fields) → SameTests ps qs → fields_projected including ps fs ≡ fields_projected including qs fs
  same_left including ps qs no_fields same = refl
  same_left including ps qs (field name v fs) same =
      let rests = same_rests name ps qs same in
      ap (λ o. field_before name o (fields_projected including ps fs)) (same_field including (rests_below name ps) (rests_below name qs) v _ _ rests (same_value including (rests_below name ps) (rests_below name qs) v rests))
      ∙ ap (λ r. field_before name (field_projected including (rests_below name qs) v (value_projected including (rests_below name qs) v)) r) (same_left including ps qs fs same)

-- a sort only moves paths

any_map : {X : Type 0} (f : X → APath) (test : APath → Bool) (xs : List X) → list_any test (map f xs) ≡ list_any (λ x. test (f x)) xs
any_map f test [] = refl
any_map f test (x ∷ xs) = ap (λ b. test (f x) || b) (any_map f test xs)

pub same_moved : {X : Type 0} (f : X → APath) (xs ys : List X) → IsPermutation xs ys → SameTests (map f ys) (map f xs)
same_moved f xs ys moved test = any_map f test ys ∙ (sym (list_any-IsPermutation (λ x. test (f x)) xs ys moved) ∙ sym (any_map f test xs))
