-- In a list of paths that stand in order, part by part, one path begins another exactly where one begins the one right behind it.
use Rattle.std.proofs.Common.{◌≡◌, ℕ, suc, ◌+◌, ◌<◌, Bool, true, false, not, ◌&&◌, ◌||◌, List, [], ◌∷◌, ◌++◌, length, get_or, drop, refl, ap, sym, ◌∙◌, add-one}
use Rattle.std.proofs.Math.Seq.{drop-cons}
use Rattle.std.specs.Prelude.{bytes_eq}
use Rattle.std.specs.declared.cmp.Ordering.{Ordering}
use Rattle.std.specs.declared.cmp.Ordering.TheVariants.{Less, Equal, Greater}
use Rattle.std.specs.Ordering.{is_eq, match_ordering, ordering_then, ordering_reverse}
use Rattle.std.specs.List.{list_any, AllByRecursion}
use Rattle.std.specs.List.Sorted.{IsStrictlySortedBy}
use Rattle.std.specs.BTreeMap.{is_at}
use Rattle.std.specs.BTreeSet.{insert_key}
use Rattle.std.proofs.lemmas.Cmp.{nat_list_cmp_total, tied_itself}
use Rattle.std.proofs.lemmas.Map.Lookups.{exact_bytes}
use Rattle.std.proofs.lemmas.Map.Text.{is_eq-slice_cmp}
use Rattle.value_model.specs.Order.{text_cmp}
use Rattle.value_model.specs.OrderLaws.{then_ties}
use Rattle.value_model.specs.TruthLaws.{both_true, equal_of}
use Rattle.modifier_apply.specs.declared.modifier.Update.{Update}
use Rattle.modifier_apply.specs.View.{changes_view}
use Rattle.modifier_apply.specs.Modified.{is_prefix, meets, conflicts, paths_of}
use Rattle.modifier_apply.specs.Neighbours.{parts_cmp, begins_next}

part_itself : (a : List ℕ) → text_cmp a a ≡ Equal
part_itself a = tied_itself nat_list_cmp_total a

same_part : (a b : List ℕ) → bytes_eq a b ≡ true → a ≡ b
same_part a b h = exact_bytes a b (equal_of (text_cmp a b) (is_eq-slice_cmp a b ∙ h))

equal_part : (a : List ℕ) → bytes_eq a a ≡ true
equal_part a = sym (is_eq-slice_cmp a a) ∙ ap is_eq (part_itself a)

begins_itself : (path : List (List ℕ)) → is_prefix path path ≡ true
begins_itself [] = refl
begins_itself (a ∷ av) = ap (λ b. b && is_prefix av av) (equal_part a) ∙ begins_itself av

pub parts_exact : (x y : List (List ℕ)) → parts_cmp x y ≡ Equal → x ≡ y
parts_exact [] [] e = refl
parts_exact [] (b ∷ bs) e = cc
parts_exact (a ∷ av) [] e = cc
parts_exact (a ∷ av) (b ∷ bs) e =
    let ties = then_ties (text_cmp a b) (parts_cmp av bs) e in
    ap (λ x. x ∷ av) (exact_bytes a b ties.0) ∙ ap (λ xs. b ∷ xs) (parts_exact av bs ties.1)

-- what stands behind a path doesn't begin it
not_behind : (x y : List (List ℕ)) → parts_cmp x y ≡ Less → is_prefix y x ≡ true → Equal ≡ Less
not_behind [] [] e h = e
not_behind [] (b ∷ bs) e h = cc
not_behind (a ∷ av) [] e h = cc
not_behind (a ∷ av) (b ∷ bs) e h =
    let parts = both_true (bytes_eq b a) (is_prefix bs av) h in
    not_behind av bs (sym (ap (λ c. ordering_then (text_cmp a c) (parts_cmp av bs)) (same_part b a parts.0) ∙ ap (λ o. ordering_then o (parts_cmp av bs)) (part_itself a)) ∙ e) parts.1

pub begins_none_before : (x y : List (List ℕ)) → parts_cmp x y ≡ Less → is_prefix y x ≡ false
begins_none_before x y e = unless (is_prefix y x) refl
  where
    unless : (b : Bool) → is_prefix y x ≡ b → is_prefix y x ≡ false
    unless false is = is
    unless true is = let never = not_behind x y e is in cc

tied : (r o p : Ordering) → ordering_then r o ≡ Less → ordering_then (ordering_reverse r) p ≡ Less → r ≡ Equal
tied Less o p e f = cc
tied Equal o p e f = refl
tied Greater o p e f = cc

-- a path that begins a later one begins what stands between them
pub begins_between : (x y z : List (List ℕ)) → parts_cmp x y ≡ Less → parts_cmp y z ≡ Less → is_prefix x z ≡ true → is_prefix x y ≡ true
begins_between [] y z e f h = refl
begins_between (a ∷ av) [] z e f h = cc
begins_between (a ∷ av) (b ∷ bs) [] e f h = cc
begins_between (a ∷ av) (b ∷ bs) (c ∷ cs) e f h =
    let parts = both_true (bytes_eq a c) (is_prefix av cs) h in
    let tie : text_cmp a b ≡ Equal = tied (text_cmp a b) (parts_cmp av bs) (parts_cmp bs cs) e (sym (ap (λ w. ordering_then (text_cmp b w) (parts_cmp bs cs)) (sym (same_part a c parts.0)) ∙ ap (λ o. ordering_then o (parts_cmp bs cs)) (nat_list_cmp_total.antisymm b a)) ∙ f) in
    let ab : a ≡ b = exact_bytes a b tie in
    let first : parts_cmp av bs ≡ Less = sym (ap (λ o. ordering_then o (parts_cmp av bs)) tie) ∙ e in
    let second : parts_cmp bs cs ≡ Less = sym (ap (λ o. ordering_then o (parts_cmp bs cs)) (ap (λ w. text_cmp b w) (sym (same_part a c parts.0) ∙ ab) ∙ part_itself b)) ∙ f in
    ap (λ w. bytes_eq a w && is_prefix av bs) (sym ab) ∙ (ap (λ t. t && is_prefix av bs) (equal_part a) ∙ begins_between av bs cs first second parts.1)

meets_later : (x y z : List (List ℕ)) → parts_cmp x y ≡ Less → parts_cmp y z ≡ Less → parts_cmp x z ≡ Less → is_prefix x y ≡ false → meets x z ≡ false
meets_later x y z e f g apart =
    ap (λ b. is_prefix x z || b) (begins_none_before x z g) ∙ unless (is_prefix x z) refl
  where
    unless : (b : Bool) → is_prefix x z ≡ b → is_prefix x z || false ≡ false
    unless false is = ap (λ t. t || false) is
    unless true is = let never = begins_between x y z e f is in cc

meets_none : (x y : List (List ℕ)) (zs : List (List (List ℕ))) → parts_cmp x y ≡ Less → is_prefix x y ≡ false → AllByRecursion (λ z. parts_cmp y z ≡ Less) zs → AllByRecursion (λ z. parts_cmp x z ≡ Less) zs →
    list_any (λ z. meets x z) zs ≡ false
meets_none x y [] e apart ys xs = refl
meets_none x y (z ∷ zs) e apart ys xs =
    ap (λ b. b || list_any (λ w. meets x w) zs) (meets_later x y z e ys.0 xs.0 apart) ∙ meets_none x y zs e apart ys.1 xs.1

meets_next : (b : Bool) (x y : List (List ℕ)) (zs : List (List (List ℕ))) → is_prefix x y ≡ b → parts_cmp x y ≡ Less → AllByRecursion (λ z. parts_cmp y z ≡ Less) zs → AllByRecursion (λ z. parts_cmp x z ≡ Less) zs →
    list_any (λ z. meets x z) (y ∷ zs) ≡ b
meets_next true x y zs is e ys xs = ap (λ b. (b || is_prefix y x) || list_any (λ w. meets x w) zs) is
meets_next false x y zs is e ys xs =
    ap (λ b. (b || is_prefix y x) || list_any (λ w. meets x w) zs) is
    ∙ (ap (λ b. b || list_any (λ w. meets x w) zs) (begins_none_before x y e) ∙ meets_none x y zs e is ys xs)

pub conflicts-in_order : (paths : List (List (List ℕ))) → IsStrictlySortedBy parts_cmp paths → conflicts paths ≡ begins_next paths
unfolding IsStrictlySortedBy
conflicts-in_order [] up = refl
conflicts-in_order (x ∷ []) up = refl
conflicts-in_order (x ∷ (y ∷ ys)) up =
    ap (λ b. b || conflicts (y ∷ ys)) (meets_next (is_prefix x y) x y ys refl up.0.0 up.1.0 up.0.1)
    ∙ ap (λ b. is_prefix x y || b) (conflicts-in_order (y ∷ ys) up.1)

module _ {X : Type 0} (test : X → Bool) (x : X) where
  turn : (a b c : Bool) → a || (b || c) ≡ b || (a || c)
  turn true true c = refl
  turn true false c = refl
  turn false true c = refl
  turn false false c = refl

  pub any_behind : (xs rest : List X) → list_any test (xs ++ x ∷ rest) ≡ test x || list_any test (xs ++ rest)
  any_behind [] rest = refl
  any_behind (y ∷ ys) rest = ap (λ b. test y || b) (any_behind ys rest) ∙ turn (test y) (test x) (list_any test (ys ++ rest))

  pub any_placed : (cmp : X → X → Ordering) (xs rest : List X) → list_any (is_at (cmp x)) xs ≡ false → list_any test (insert_key cmp xs x ++ rest) ≡ test x || list_any test (xs ++ rest)
  any_placed cmp [] rest new = refl
  any_placed cmp (y ∷ ys) rest new = by_order (cmp x y) (λ still. any_placed cmp ys rest still) new
    where
      by_order : (o : Ordering) → (list_any (is_at (cmp x)) ys ≡ false → list_any test (insert_key cmp ys x ++ rest) ≡ test x || list_any test (ys ++ rest)) → is_eq o || list_any (is_at (cmp x)) ys ≡ false →
          list_any test (match_ordering o (x ∷ y ∷ ys) (y ∷ ys) (y ∷ insert_key cmp ys x) ++ rest) ≡ test x || list_any test (y ∷ ys ++ rest)
      by_order Less later new = refl
      by_order Equal later new = cc
      by_order Greater later new = ap (λ b. test y || b) (later new) ∙ turn (test y) (test x) (list_any test (ys ++ rest))

either : (a b : Bool) → a || b ≡ b || a
either true true = refl
either true false = refl
either false true = refl
either false false = refl

meets_back : (x y : List (List ℕ)) → meets x y ≡ meets y x
meets_back x y = either (is_prefix x y) (is_prefix y x)

exchange : (m n a b c : Bool) → m ≡ n → (m || a) || (b || c) ≡ (n || b) || (a || c)
exchange true n a b c e = ap (λ t. (t || b) || (a || c)) e
exchange false n true true c e = ap (λ t. (t || true) || true) e
exchange false n true false c e = ap (λ t. (t || false) || true) e
exchange false n false b c e = ap (λ t. (t || b) || c) e

module _ (path : List (List ℕ)) (rest : List (List (List ℕ))) where
  pub conflicts-behind : (paths : List (List (List ℕ))) → conflicts (paths ++ path ∷ rest) ≡ list_any (λ q. meets path q) (paths ++ rest) || conflicts (paths ++ rest)
  conflicts-behind [] = refl
  conflicts-behind (p ∷ ps) =
      ap (λ b. b || conflicts (ps ++ path ∷ rest)) (any_behind (λ q. meets p q) path ps rest)
      ∙ (ap (λ b. (meets p path || list_any (λ q. meets p q) (ps ++ rest)) || b) (conflicts-behind ps)
      ∙ exchange (meets p path) (meets path p) (list_any (λ q. meets p q) (ps ++ rest)) (list_any (λ q. meets path q) (ps ++ rest)) (conflicts (ps ++ rest)) (meets_back p path))

  conflicts-placed : (paths : List (List (List ℕ))) → list_any (is_at (parts_cmp path)) paths ≡ false → conflicts (insert_key parts_cmp paths path ++ rest) ≡ list_any (λ q. meets path q) (paths ++ rest) || conflicts (paths ++ rest)
  conflicts-placed [] new = refl
  conflicts-placed (p ∷ ps) new = by_order (parts_cmp path p) (λ still. conflicts-placed ps still) new
    where
      by_order : (o : Ordering) → (list_any (is_at (parts_cmp path)) ps ≡ false → conflicts (insert_key parts_cmp ps path ++ rest) ≡ list_any (λ q. meets path q) (ps ++ rest) || conflicts (ps ++ rest)) →
          is_eq o || list_any (is_at (parts_cmp path)) ps ≡ false →
          conflicts (match_ordering o (path ∷ p ∷ ps) (p ∷ ps) (p ∷ insert_key parts_cmp ps path) ++ rest) ≡ list_any (λ q. meets path q) (p ∷ ps ++ rest) || conflicts (p ∷ ps ++ rest)
      by_order Less later new = refl
      by_order Equal later new = cc
      by_order Greater later new =
          ap (λ b. b || conflicts (insert_key parts_cmp ps path ++ rest)) (any_placed (λ q. meets p q) path parts_cmp ps rest new)
          ∙ (ap (λ b. (meets p path || list_any (λ q. meets p q) (ps ++ rest)) || b) (later new)
          ∙ exchange (meets p path) (meets path p) (list_any (λ q. meets p q) (ps ++ rest)) (list_any (λ q. meets path q) (ps ++ rest)) (conflicts (ps ++ rest)) (meets_back p path))

  -- a path that isn't among the others may go to its place
  pub conflicts-insert : (paths : List (List (List ℕ))) → list_any (is_at (parts_cmp path)) paths ≡ false → conflicts (insert_key parts_cmp paths path ++ rest) ≡ conflicts (paths ++ path ∷ rest)
  conflicts-insert paths new = conflicts-placed paths new ∙ sym (conflicts-behind paths)

  meets_equal : (paths : List (List (List ℕ))) → list_any (is_at (parts_cmp path)) paths ≡ true → list_any (λ q. meets path q) (paths ++ rest) ≡ true
  meets_equal [] found = cc
  meets_equal (p ∷ ps) found = by_order (parts_cmp path p) refl (λ there. meets_equal ps there) found
    where
      left_true : (a b : Bool) → a ≡ true → a || b ≡ true
      left_true a b e = ap (λ t. t || b) e

      right_true : (a b : Bool) → b ≡ true → a || b ≡ true
      right_true true b e = refl
      right_true false b e = e

      by_order : (o : Ordering) → parts_cmp path p ≡ o → (list_any (is_at (parts_cmp path)) ps ≡ true → list_any (λ q. meets path q) (ps ++ rest) ≡ true) → is_eq o || list_any (is_at (parts_cmp path)) ps ≡ true → list_any (λ q. meets path q) (p ∷ ps ++ rest) ≡ true
      by_order Equal is later found = left_true (meets path p) _ (left_true (is_prefix path p) (is_prefix p path) (ap (λ q. is_prefix path q) (sym (parts_exact path p is)) ∙ begins_itself path))
      by_order Less is later found = right_true (meets path p) _ (later found)
      by_order Greater is later found = right_true (meets path p) _ (later found)

  -- a path that equals one of the others
  pub conflicts-again : (paths : List (List (List ℕ))) → list_any (is_at (parts_cmp path)) paths ≡ true → conflicts (paths ++ path ∷ rest) ≡ true
  conflicts-again paths found = conflicts-behind paths ∙ ap (λ b. b || conflicts (paths ++ rest)) (meets_equal paths found)

not_new : (added there : Bool) → added ≡ not there → added ≡ false → there ≡ true
not_new added true is old = refl
not_new added false is old = sym old ∙ is

pub is_new : (added there : Bool) → added ≡ not there → added ≡ true → there ≡ false
is_new added true is new = sym new ∙ is
is_new added false is new = refl

-- one more path of the updates, which goes to its place among those before it
module _ (us : List Update) (i : ℕ) (u : Update) (key : List (List ℕ)) (paths : List (List (List ℕ))) (added : Bool) (inside : i < length us) (here : u ≡ get_or us i u) (key_is : key ≡ u.path) (added_is : added ≡ not (list_any (is_at (parts_cmp key)) paths)) where
  left : paths_of (changes_view (drop i us)) ≡ key ∷ paths_of (changes_view (drop (i + 1) us))
  left =
      ap (λ ws. paths_of (changes_view ws)) (drop-cons us i u inside ∙ ap (λ w. w ∷ drop (suc i) us) (sym here))
      ∙ ap (λ n. u.path ∷ paths_of (changes_view (drop n us))) (sym (add-one i)) ∙ ap (λ k. k ∷ paths_of (changes_view (drop (i + 1) us))) (sym key_is)

  pub conflict_again : added ≡ false → conflicts (paths ++ paths_of (changes_view (drop i us))) ≡ true
  conflict_again old = ap (λ ps. conflicts (paths ++ ps)) left ∙ conflicts-again key (paths_of (changes_view (drop (i + 1) us))) paths (not_new added _ added_is old)

  pub conflicts_more : added ≡ true → conflicts (insert_key parts_cmp paths key ++ paths_of (changes_view (drop (i + 1) us))) ≡ conflicts (paths ++ paths_of (changes_view (drop i us)))
  conflicts_more new = conflicts-insert key (paths_of (changes_view (drop (i + 1) us))) paths (is_new added _ added_is new) ∙ ap (λ ps. conflicts (paths ++ ps)) (sym left)
