-- Lemmas of the id that a selector names.
use Rattle.std.proofs.Common.{◌≡◌, ℕ, zero, suc, ◌<◌, ◌||◌, Bool, true, false, codes, List, [], ◌∷◌, length, get_or, take, map, Option, Some, None, refl, ap, ◌∙◌, arith}
use Rattle.std.specs.Ordering.{is_eq}
use Rattle.std.proofs.lemmas.Map.Lookups.{exact_bytes}
use Rattle.value_model.specs.TruthLaws.{both_true, equal_of}
use Rattle.value_model.specs.Val.{text, Entries}
use Rattle.value_model.specs.Order.{text_cmp}
use Rattle.selector_match.specs.Query.{Query, no_clauses, clause, Clause, at_path, Predicates, no_predicates, predicate, Predicate, equal, query_of, predicates_of}
use Rattle.selector_match.specs.View.{clause_view, predicate_view}
use Rattle.selector_match.specs.declared.selector.Condition.{Condition}
use Rattle.selector_match.specs.declared.selector.Operator.{Operator}
use Rattle.selector_match.specs.Holds.{with_id, query_holds, clause_holds, predicates_hold, predicate_holds}
use Rattle.selector_match.specs.Named.{first_of_both, named_by_predicate, named_by_predicates, if_true, named_by_clause, named_id}
use Rattle.selector_match.proofs.Ids.{at_id}

-- what the first element gives that gives something
abbrev pub first_found : {X Y : Type 0} → (X → Option Y) → List X → Option Y
first_found f [] = None
first_found f (x ∷ xs) = first_of_both (f x) (first_found f xs)

none_of_both : {Y : Type 0} (a b : Option Y) → first_of_both a b ≡ None → (a ≡ None) × (b ≡ None)
none_of_both None b e = (refl, e)
none_of_both (Some y) b e = cc

module _ {X Y : Type 0} (f : X → Option Y) where
  pub found_more : (xs : List X) (i : ℕ) (d : X) → i < length xs → first_found f (take i xs) ≡ None → f (get_or xs i d) ≡ None → first_found f (take (suc i) xs) ≡ None
  found_more [] i d h so_far here = absurd (omega (arith, h))
  found_more (x ∷ xs) zero d h so_far here = ap (λ o. first_of_both o (first_found f (take zero xs))) here
  found_more (x ∷ xs) (suc i) d h so_far here =
      let both = none_of_both (f x) (first_found f (take i xs)) so_far in
      let less : i < length xs = omega (arith, h) in
      ap (λ o. first_of_both o (first_found f (take (suc i) xs))) both.0 ∙ found_more xs i d less both.1 here

  pub found_here : (xs : List X) (i : ℕ) (d : X) (y : Y) → i < length xs → first_found f (take i xs) ≡ None → f (get_or xs i d) ≡ Some y → first_found f xs ≡ Some y
  found_here [] i d y h so_far here = absurd (omega (arith, h))
  found_here (x ∷ xs) zero d y h so_far here = ap (λ o. first_of_both o (first_found f xs)) here
  found_here (x ∷ xs) (suc i) d y h so_far here =
      let both = none_of_both (f x) (first_found f (take i xs)) so_far in
      let less : i < length xs = omega (arith, h) in
      ap (λ o. first_of_both o (first_found f xs)) both.0 ∙ found_here xs i d y less both.1 here

pub named_by_predicates-is : (ps : List Operator) → named_by_predicates (predicates_of (map predicate_view ps)) ≡ first_found (λ p. named_by_predicate (predicate_view p)) ps
named_by_predicates-is [] = refl
named_by_predicates-is (p ∷ ps) = ap (λ o. first_of_both (named_by_predicate (predicate_view p)) o) (named_by_predicates-is ps)

pub named_id-is : (cs : List Condition) → named_id (query_of (map clause_view cs)) ≡ first_found (λ c. named_by_clause (clause_view c)) cs
named_id-is [] = refl
named_id-is (c ∷ cs) = ap (λ o. first_of_both (named_by_clause (clause_view c)) o) (named_id-is cs)

or_false : (a : Bool) → (a || false) ≡ true → a ≡ true
or_false true e = refl
or_false false e = cc

same_some : (s t : List ℕ) → Some s ≡ Some t → s ≡ t
same_some s t e = cc

predicate_only : (p : Predicate) (t id : List ℕ) → named_by_predicate p ≡ Some t → predicate_holds p ((Some (text id), false) ∷ []) ≡ true → id ≡ t
predicate_only (equal (text s)) t id e holds = exact_bytes id s (equal_of (text_cmp id s) (or_false (is_eq (text_cmp id s)) holds)) ∙ same_some s t e
predicate_only p t id e holds = cc

predicates_only : (ps : Predicates) (t id : List ℕ) → named_by_predicates ps ≡ Some t → predicates_hold ps ((Some (text id), false) ∷ []) ≡ true → id ≡ t
predicates_only no_predicates t id e holds = cc
predicates_only (predicate p ps) t id e holds =
    let both = both_true (predicate_holds p ((Some (text id), false) ∷ [])) (predicates_hold ps ((Some (text id), false) ∷ [])) holds in
    by (λ e. predicates_only ps t id e both.1) both.0 (named_by_predicate p) refl e
  where
    by : (named_by_predicates ps ≡ Some t → id ≡ t) → predicate_holds p ((Some (text id), false) ∷ []) ≡ true → (o : Option (List ℕ)) → named_by_predicate p ≡ o → first_of_both o (named_by_predicates ps) ≡ Some t → id ≡ t
    by below here None is e = below e
    by below here (Some s) is e = predicate_only p s id is here ∙ same_some s t e

if_named : {X : Type 0} (b : Bool) (o : Option X) (x : X) → if_true b o ≡ Some x → (b ≡ true) × (o ≡ Some x)
if_named true o x e = (refl, e)
if_named false o x e = cc

clause_only : (c : Clause) (t id : List ℕ) (doc : Entries) → named_by_clause c ≡ Some t → clause_holds c (with_id id doc) ≡ true → id ≡ t
clause_only (at_path (part ∷ []) ps) t id doc e holds =
    let named = if_named (is_eq (text_cmp part (codes "_id"))) (named_by_predicates ps) t e in
    predicates_only ps t id named.1 (ap (λ bs. predicates_hold ps bs) (at_id part [] id doc named.0) ∙ holds)
clause_only c t id doc e holds = cc

pub named_only : (q : Query) (t : List ℕ) → named_id q ≡ Some t → (id : List ℕ) (doc : Entries) → query_holds q (with_id id doc) ≡ true → id ≡ t
named_only no_clauses t e id doc holds = cc
named_only (clause c q) t e id doc holds =
    let both = both_true (clause_holds c (with_id id doc)) (query_holds q (with_id id doc)) holds in
    by (λ e. named_only q t e id doc both.1) both.0 (named_by_clause c) refl e
  where
    by : (named_id q ≡ Some t → id ≡ t) → clause_holds c (with_id id doc) ≡ true → (o : Option (List ℕ)) → named_by_clause c ≡ o → first_of_both o (named_id q) ≡ Some t → id ≡ t
    by below here None is e = below e
    by below here (Some s) is e = clause_only c s id doc is here ∙ same_some s t e
