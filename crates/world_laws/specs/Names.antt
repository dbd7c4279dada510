-- Names in order, from one on: as a round goes through them that looks for the next one.
use Rattle.std.specs.Prelude.{◌≡◌, ◌⊎◌, ℕ, zero, suc, List, map, option_map, [], ◌∷◌, ◌++◌, filter, Bool, true, false, cond, ◌||◌, Option, Some, None}
use Rattle.std.specs.Prelude.{is_some, refl}
use Rattle.std.specs.Map.{keys_of}
use Rattle.std.specs.declared.cmp.Ordering.{Ordering}
use Rattle.std.specs.declared.cmp.Ordering.TheVariants.{Less, Equal, Greater}
use Rattle.std.specs.Ordering.{is_lt, is_le, is_eq, eq_by_cmp, nat_cmp, ordering_then, ordering_reverse}
use Rattle.std.specs.List.Sorted.{IsStrictlySortedBy}
use Rattle.std.specs.List.{list_any, AllByRecursion}
use Rattle.std.specs.Cmp.{nat_cmp_is}
use Rattle.std.proofs.Common.{ap, sym, subst, ◌∙◌, arith, inl, inr}
use Rattle.std.proofs.lemmas.Map.Made.{keys_of-map_values}
use Rattle.map_model.specs.Maps.{at, IsSorted}
use Rattle.map_model.specs.MapLaws.{same_maps}
use Rattle.value_model.specs.Order.{text_cmp}
use Rattle.ejson_value.specs.Key.{name_order}

-- those that are this name or stand behind it, and those that stand behind it
abbrev pub names_from : List ℕ → List (List ℕ) → List (List ℕ)
names_from from names = filter (λ q. is_le (text_cmp from q)) names

-- the least text behind this one
abbrev pub behind : List ℕ → List ℕ
behind name = name ++ 0 ∷ []

pub empty_first : (q : List ℕ) → is_le (text_cmp [] q) ≡ true
empty_first [] = refl
empty_first (x ∷ xs) = refl

zero_first : (x : ℕ) (q : List ℕ) → is_le (text_cmp (0 ∷ []) (x ∷ q)) ≡ true
zero_first zero q = empty_first q
zero_first (suc x) q = ap (λ (o : Ordering). is_le (ordering_then o (text_cmp [] q))) (sym (nat_cmp_is 0 (suc x) Less (omega arith)))

pub behind_it : (name q : List ℕ) → is_le (text_cmp (behind name) q) ≡ is_lt (text_cmp name q)
behind_it [] [] = refl
behind_it [] (x ∷ q) = zero_first x q
behind_it (n ∷ name) [] = refl
behind_it (n ∷ name) (x ∷ q) =
    elim (nat_cmp n x) as
    (λ (o : Ordering). is_le (ordering_then o (text_cmp (behind name) q)) ≡ is_lt (ordering_then o (text_cmp name q)))
    [ Less ↦ refl | Equal ↦ behind_it name q | Greater ↦ refl ]

-- ---- maps with the same keys

pub at_mapped : {X Y : Type 0} (f : X → Y) (es : List (List ℕ × X)) (q : List ℕ) →
    at text_cmp (map (λ (e : List ℕ × X). (e.0, f e.1)) es) q ≡ option_map f (at text_cmp es q)
at_mapped f [] q = refl
at_mapped f (e ∷ es) q =
    elim (is_eq (text_cmp q e.0)) as
    (λ b. cond b (Some (f e.1)) (at text_cmp (map (λ e. (e.0, f e.1)) es) q) ≡ option_map f (cond b (Some e.1) (at text_cmp es q)))
    [ true ↦ refl | false ↦ at_mapped f es q ]

pub sorted_mapped : {X Y : Type 0} (f : X → Y) (es : List (List ℕ × X)) → IsSorted text_cmp es → IsSorted text_cmp (map (λ (e : List ℕ × X). (e.0, f e.1)) es)
sorted_mapped f es s = subst (IsStrictlySortedBy text_cmp) (sym (keys_of-map_values f es)) s

unit_of : {X : Type 0} → X → Unit {0}
unit_of x = tt

unit_same : {X Y : Type 0} (a : Option X) (b : Option Y) → is_some a ≡ is_some b → option_map unit_of a ≡ option_map unit_of b
unit_same None None e = refl
unit_same None (Some y) e = cc e
unit_same (Some x) None e = cc e
unit_same (Some x) (Some y) e = refl

pub same_keys : {X Y : Type 0} (a : List (List ℕ × X)) (b : List (List ℕ × Y)) → IsSorted text_cmp a → IsSorted text_cmp b →
    ((q : List ℕ) → is_some (at text_cmp a q) ≡ is_some (at text_cmp b q)) → keys_of a ≡ keys_of b
same_keys a b s t same =
    let as_ = map (λ e. (e.0, unit_of e.1)) a in
    let bs = map (λ e. (e.0, unit_of e.1)) b in
    sym (keys_of-map_values unit_of a)
    ∙ (ap keys_of (same_maps name_order as_ bs (sorted_mapped unit_of a s) (sorted_mapped unit_of b t)
    (λ q. at_mapped unit_of a q ∙ (unit_same (at text_cmp a q) (at text_cmp b q) (same q) ∙ sym (at_mapped unit_of b q))))
    ∙ keys_of-map_values unit_of b)

-- ---- which stand behind one

all_behind : (name n : List ℕ) (ns : List (List ℕ)) → text_cmp name n ≡ Less → AllByRecursion (λ y. text_cmp n y ≡ Less) ns →
    AllByRecursion (λ y. text_cmp name y ≡ Less) ns
all_behind name n [] l all = tt
all_behind name n (m ∷ ns) l all = (name_order.total.trans name n m l all.0, all_behind name n ns l all.1)

none_equal : (name : List ℕ) (ns : List (List ℕ)) → AllByRecursion (λ y. text_cmp name y ≡ Less) ns → list_any (eq_by_cmp text_cmp name) ns ≡ false
none_equal name [] all = refl
none_equal name (m ∷ ns) all = ap (λ (o : Ordering). is_eq o || list_any (eq_by_cmp text_cmp name) ns) all.0 ∙ none_equal name ns all.1

-- behind a name that stands behind another stands what stands behind both
le_less : (from name q : List ℕ) → is_le (text_cmp from name) ≡ true → text_cmp name q ≡ Less → is_le (text_cmp from q) ≡ true
le_less from name q le less = by (text_cmp from name) refl
  where
    by : (o : Ordering) → text_cmp from name ≡ o → is_le (text_cmp from q) ≡ true
    by Less e = ap is_le (name_order.total.trans from name q e less)
    by Equal e = ap is_le (name_order.total.congr from name q e ∙ less)
    by Greater e = cc (sym le ∙ ap is_le e)

all_from : (from name : List ℕ) (ns : List (List ℕ)) → is_le (text_cmp from name) ≡ true → AllByRecursion (λ y. text_cmp name y ≡ Less) ns →
    names_from from ns ≡ ns
all_from from name [] le all = refl
all_from from name (m ∷ ns) le all = ap (λ b. cond b (m ∷ names_from from ns) (names_from from ns)) (le_less from name m le all.0)
    ∙ ap (λ (xs : List (List ℕ)). m ∷ xs) (all_from from name ns le all.1)

all_next : (name : List ℕ) (ns : List (List ℕ)) → AllByRecursion (λ y. text_cmp name y ≡ Less) ns → names_from (behind name) ns ≡ ns
all_next name [] all = refl
all_next name (m ∷ ns) all =
    ap (λ b. cond b (m ∷ names_from (behind name) ns) (names_from (behind name) ns)) (behind_it name m ∙ ap is_lt all.0)
    ∙ ap (λ (xs : List (List ℕ)). m ∷ xs) (all_next name ns all.1)

-- ---- a round that looks for the next name

module _ {W : Type 0} (visit : List ℕ → W → W) where
  abbrev pub visited : List (List ℕ) → W → W
  visited [] w = w
  visited (name ∷ names) w = visited names (visit name w)

  -- from a name on, where those before another one change nothing, that one comes next; one that isn't among them changes nothing either
  abbrev Comes : List ℕ → List (List ℕ) → W → Type 0
  Comes name names w = (list_any (eq_by_cmp text_cmp name) names ≡ true) ⊎ (visit name w ≡ w)

  pub next_comes : (from name : List ℕ) → is_le (text_cmp from name) ≡ true → (names : List (List ℕ)) → IsStrictlySortedBy text_cmp names → (w : W) →
      ((q : List ℕ) → is_le (text_cmp from q) ≡ true → is_lt (text_cmp q name) ≡ true → visit q w ≡ w) → Comes name names w →
      visited (names_from from names) w ≡ visited (names_from (behind name) names) (visit name w)
  unfolding IsStrictlySortedBy
  next_comes from name le [] sorted w passed (inl e) = cc e
  next_comes from name le [] sorted w passed (inr e) = sym e
  next_comes from name le (n ∷ ns) sorted w passed comes = by (text_cmp name n) refl (next_comes from name le ns sorted.1 w passed)
    where
      here : (o : Ordering) → text_cmp name n ≡ o →
          names_from (behind name) (n ∷ ns) ≡ cond (is_lt o) (n ∷ names_from (behind name) ns) (names_from (behind name) ns)
      here o e = ap (λ b. cond b (n ∷ names_from (behind name) ns) (names_from (behind name) ns)) (behind_it name n ∙ ap is_lt e)

      there : (b : Bool) → is_le (text_cmp from n) ≡ b → names_from from (n ∷ ns) ≡ cond b (n ∷ names_from from ns) (names_from from ns)
      there b e = ap (λ b. cond b (n ∷ names_from from ns) (names_from from ns)) e

      same : AllByRecursion (λ y. text_cmp name y ≡ Less) ns → names_from from ns ≡ names_from (behind name) ns
      same all = all_from from name ns le all ∙ sym (all_next name ns all)

      later : text_cmp name n ≡ Greater → Comes name (n ∷ ns) w → Comes name ns w
      later e (inl c) = inl (sym (ap (λ (o : Ordering). is_eq o || list_any (eq_by_cmp text_cmp name) ns) e) ∙ c)
      later e (inr c) = inr c

      skip : (b : Bool) → is_le (text_cmp from n) ≡ b → text_cmp name n ≡ Greater → visited (names_from from (n ∷ ns)) w ≡ visited (names_from from ns) w
      skip true t e = ap (λ (xs : List (List ℕ)). visited xs w) (there true t)
          ∙ ap (visited (names_from from ns)) (passed n t (ap is_lt (name_order.total.antisymm n name ∙ ap ordering_reverse e)))
      skip false t e = ap (λ (xs : List (List ℕ)). visited xs w) (there false t)

      stays : text_cmp name n ≡ Less → Comes name (n ∷ ns) w → visit name w ≡ w
      stays e (inl c) = cc
          (sym c ∙ (ap (λ (o : Ordering). is_eq o || list_any (eq_by_cmp text_cmp name) ns) e ∙ none_equal name ns (all_behind name n ns e sorted.0)))
      stays e (inr c) = c

      by : (o : Ordering) → text_cmp name n ≡ o → (Comes name ns w → visited (names_from from ns) w ≡ visited (names_from (behind name) ns) (visit name w)) →
          visited (names_from from (n ∷ ns)) w ≡ visited (names_from (behind name) (n ∷ ns)) (visit name w)
      by Less e rest =
          ap (λ (xs : List (List ℕ)). visited xs w) (there true (le_less from name n le e))
          ∙ (ap (λ (xs : List (List ℕ)). visited xs (visit n w)) (same (all_behind name n ns e sorted.0))
          ∙ (ap (λ (v : W). visited (names_from (behind name) ns) (visit n v)) (sym (stays e comes))
          ∙ ap (λ (xs : List (List ℕ)). visited xs (visit name w)) (sym (here Less e))))
      by Equal e rest =
          let is : name ≡ n = name_order.exact name n e in
          ap (λ (xs : List (List ℕ)). visited xs w) (there true (subst (λ (m : List ℕ). is_le (text_cmp from m) ≡ true) is le))
          ∙ (ap (λ (xs : List (List ℕ)). visited xs (visit n w)) (same (subst (λ (m : List ℕ). AllByRecursion (λ y. text_cmp m y ≡ Less) ns) (sym is) sorted.0))
          ∙ (ap (λ (m : List ℕ). visited (names_from (behind name) ns) (visit m w)) (sym is)
          ∙ ap (λ (xs : List (List ℕ)). visited xs (visit name w)) (sym (here Equal e))))
      by Greater e rest =
          skip (is_le (text_cmp from n)) refl e ∙ (rest (later e comes) ∙ ap (λ (xs : List (List ℕ)). visited xs (visit name w)) (sym (here Greater e)))

  -- where all from there on change nothing, the round is over
  pub none_comes : (from : List ℕ) (names : List (List ℕ)) (w : W) → ((q : List ℕ) → is_le (text_cmp from q) ≡ true → visit q w ≡ w) →
      visited (names_from from names) w ≡ w
  none_comes from [] w passed = refl
  none_comes from (n ∷ ns) w passed = by (is_le (text_cmp from n)) refl (none_comes from ns w passed)
    where
      by : (b : Bool) → is_le (text_cmp from n) ≡ b → visited (names_from from ns) w ≡ w → visited (names_from from (n ∷ ns)) w ≡ w
      by true t rest = ap (λ b. visited (cond b (n ∷ names_from from ns) (names_from from ns)) w) t ∙ (ap (visited (names_from from ns)) (passed n t) ∙ rest)
      by false t rest = ap (λ b. visited (cond b (n ∷ names_from from ns) (names_from from ns)) w) t ∙ rest

  -- from the empty text on are all
  pub all_come : (names : List (List ℕ)) (w : W) → visited (names_from [] names) w ≡ visited names w
  all_come names w = ap (λ (xs : List (List ℕ)). visited xs w) (all names)
    where
      all : (names : List (List ℕ)) → names_from [] names ≡ names
      all [] = refl
      all (n ∷ ns) = ap (λ b. cond b (n ∷ names_from [] ns) (names_from [] ns)) (empty_first n) ∙ ap (λ (xs : List (List ℕ)). n ∷ xs) (all ns)
