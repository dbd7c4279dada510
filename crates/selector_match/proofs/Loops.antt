-- Lemmas of loops that ask each element, until one decides.
use Rattle.std.proofs.Common.{◌≡◌, ℕ, ◌+◌, ◌<◌, ◌≤◌, ◌&&◌, ◌||◌, ◌++◌, Bool, true, false, suc, List, [], ◌∷◌, ◌==◌, cond, Option, Some, length, get_or, take, drop, map, refl, ap, ap₂, sym, ◌∙◌, arith, append_assoc}
use Rattle.std.specs.List.{list_any, list_all}
use Rattle.std.proofs.Math.Seq.{drop-cons}
use Rattle.std.proofs.lemmas.List.{take_all, map-append, append-nil, drop_all}
use Rattle.std.proofs.lemmas.List.Folds.{list_any_more, list_any_at, list_all_more, list_all_at}
use Rattle.std.specs.Option.{option_map_or}
use Rattle.value_model.specs.Val.{Val, Fields, vals_of, list_of}
use Rattle.value_model.specs.ValLaws.{list_of-vals_of}
use Rattle.value_model.specs.Branches.{Branch}
use Rattle.selector_match.specs.Query.{Query, queries_of}
use Rattle.selector_match.specs.Holds.{list_in, elements, has_length, branch_candidates, query_holds, clause_holds, all_hold, some_holds, predicates_hold, predicate_holds}
use Rattle.selector_match.specs.View.{clause_view, predicate_view, clauses_view, predicates_view}
use Rattle.selector_match.specs.declared.selector.Condition.{Condition}
use Rattle.selector_match.specs.declared.selector.Operator.{Operator}

module _ {X : Type 0} (test : X → Bool) (xs : List X) (i : ℕ) where
  pub none_more : (x : X) → i < length xs → x ≡ get_or xs i x → list_any test (take i xs) ≡ false → test x ≡ false → list_any test (take (i + 1) xs) ≡ false
  none_more x h is so_far here = list_any_more test xs i x h ∙ (ap (λ a. a || test (get_or xs i x)) so_far ∙ (ap test (sym is) ∙ here))

  pub some_here : (x : X) → i < length xs → x ≡ get_or xs i x → test x ≡ true → list_any test xs ≡ true
  some_here x h is here = list_any_at test xs i x h (ap test (sym is) ∙ here)

  pub none_at_all : length xs ≤ i → list_any test (take i xs) ≡ false → list_any test xs ≡ false
  none_at_all h so_far = ap (λ ys. list_any test ys) (sym (take_all i xs h)) ∙ so_far

  pub all_more : (x : X) → i < length xs → x ≡ get_or xs i x → list_all test (take i xs) ≡ true → test x ≡ true → list_all test (take (i + 1) xs) ≡ true
  all_more x h is so_far here = list_all_more test xs i x h ∙ (ap (λ a. a && test (get_or xs i x)) so_far ∙ (ap test (sym is) ∙ here))

  pub not_here : (x : X) → i < length xs → x ≡ get_or xs i x → test x ≡ false → list_all test xs ≡ false
  not_here x h is here = list_all_at test xs i x h (ap test (sym is) ∙ here)

  pub all_of_them : length xs ≤ i → list_all test (take i xs) ≡ true → list_all test xs ≡ true
  all_of_them h so_far = ap (λ ys. list_all test ys) (sym (take_all i xs h)) ∙ so_far

pub list_any-map : {X Y : Type 0} (test : Y → Bool) (f : X → Y) (xs : List X) → list_any test (map f xs) ≡ list_any (λ x. test (f x)) xs
list_any-map test f [] = refl
list_any-map test f (x ∷ xs) = ap (λ r. test (f x) || r) (list_any-map test f xs)

pub all_hold-is : (qs : List Query) (fs : Fields) → all_hold (queries_of qs) fs ≡ list_all (λ q. query_holds q fs) qs
all_hold-is [] fs = refl
all_hold-is (q ∷ qs) fs = ap (λ r. query_holds q fs && r) (all_hold-is qs fs)

pub some_holds-is : (qs : List Query) (fs : Fields) → some_holds (queries_of qs) fs ≡ list_any (λ q. query_holds q fs) qs
some_holds-is [] fs = refl
some_holds-is (q ∷ qs) fs = ap (λ r. query_holds q fs || r) (some_holds-is qs fs)

pub query_holds-is : (cs : List Condition) (fs : Fields) → query_holds (clauses_view cs) fs ≡ list_all (λ c. clause_holds (clause_view c) fs) cs
query_holds-is [] fs = refl
query_holds-is (c ∷ cs) fs = ap (λ r. clause_holds (clause_view c) fs && r) (query_holds-is cs fs)

pub predicates_hold-is : (ps : List Operator) (bs : List Branch) → predicates_hold (predicates_view ps) bs ≡ list_all (λ p. predicate_holds (predicate_view p) bs) ps
predicates_hold-is [] bs = refl
predicates_hold-is (p ∷ ps) bs = ap (λ r. predicate_holds (predicate_view p) bs && r) (predicates_hold-is ps bs)

-- a list that was reached
pub has_length-list : (n : ℕ) (reached : Option Val) (vs : List Val) → list_in reached ≡ Some (vals_of vs) → has_length n reached ≡ (length vs == n)
has_length-list n reached vs is = ap (λ o. option_map_or (λ ws. length (list_of ws) == n) o false) is ∙ ap (λ ws. length ws == n) (list_of-vals_of vs)

pub elements-list : (reached : Option Val) (vs : List Val) → list_in reached ≡ Some (vals_of vs) → elements reached ≡ vs
elements-list reached vs is = ap (λ o. option_map_or list_of o []) is ∙ list_of-vals_of vs

-- the candidates of a branch that counts as no whole, where the first fails
pub by_elements : (test : Option Val → Bool) (reached : Option Val) (whole : Bool) (vs : List Val) → test reached ≡ false → whole ≡ false → list_in reached ≡ Some (vals_of vs) →
    list_any (λ v. test (Some v)) vs ≡ list_any test (branch_candidates (reached, whole))
by_elements test reached whole vs fails part is =
    sym (ap (λ a. a || list_any test (cond whole [] (map Some (elements reached)))) fails
    ∙ (ap (λ w. list_any test (cond w [] (map Some (elements reached)))) part
    ∙ (list_any-map test Some (elements reached)
    ∙ ap (λ ws. list_any (λ v. test (Some v)) ws) (elements-list reached vs is))))

any_none : {X : Type 0} (xs : List X) → false ≡ list_any (λ x. false) xs
any_none [] = refl
any_none (x ∷ xs) = any_none xs

or_true : (b : Bool) → (b || true) ≡ true
or_true true = refl
or_true false = refl

any_or : {X : Type 0} (p q : X → Bool) (xs : List X) → (list_any p xs || list_any q xs) ≡ list_any (λ x. p x || q x) xs
any_or p q [] = refl
any_or p q (x ∷ xs) = by (p x) (q x) (any_or p q xs)
  where
    by : (a b : Bool) → (list_any p xs || list_any q xs) ≡ list_any (λ x. p x || q x) xs → ((a || list_any p xs) || (b || list_any q xs)) ≡ ((a || b) || list_any (λ x. p x || q x) xs)
    by true b e = refl
    by false true e = or_true (list_any p xs)
    by false false e = e

-- some pair of two lists passes a test, whichever list is gone through first
pub any_either_way : {X Y : Type 0} (test : Y → X → Bool) (xs : List X) (ys : List Y) → list_any (λ x. list_any (λ y. test y x) ys) xs ≡ list_any (λ y. list_any (λ x. test y x) xs) ys
any_either_way test [] ys = any_none ys
any_either_way test (x ∷ xs) ys = ap (λ r. list_any (λ y. test y x) ys || r) (any_either_way test xs ys) ∙ any_or (λ y. test y x) (λ y. list_any (λ w. test y w) xs) ys

-- a loop that makes one of each element: what is made so far, and the elements that are left
next_is : (i : ℕ) → suc i ≡ i + 1
next_is i = omega arith

module _ {X Y Z : Type 0} (f : X → Y) (g : Z → Y) (xs : List X) (done : List Z) (i : ℕ) where
  pub one_made : (new : List Z) (x : X) (z : Z) → i < length xs → x ≡ get_or xs i x → new ≡ done ++ z ∷ [] → g z ≡ f x → map f xs ≡ map g done ++ map f (drop i xs) → map f xs ≡ map g new ++ map f (drop (i + 1) xs)
  one_made new x z h is put same so_far =
      so_far
      ∙ ap (λ r. map g done ++ map f r) (drop-cons xs i x h)
      ∙ ap₂ (λ y n. map g done ++ (y ∷ map f (drop n xs))) (ap f (sym is) ∙ sym same) (next_is i)
      ∙ sym (append_assoc (map g done) (g z ∷ []) (map f (drop (i + 1) xs)))
      ∙ ap (λ l. l ++ map f (drop (i + 1) xs)) (sym (ap (λ zs. map g zs) put ∙ map-append g done (z ∷ [])))

  pub all_made : length xs ≤ i → map f xs ≡ map g done ++ map f (drop i xs) → map g done ≡ map f xs
  all_made h so_far = sym (so_far ∙ ap (λ r. map g done ++ map f r) (drop_all i xs h) ∙ append-nil (map g done))
