-- A code of selectors, by which contracts tell them apart.
use Rattle.std.specs.Prelude.{◌≡◌, ℕ, zero, suc, List, [], ◌∷◌, refl}
use Rattle.std.proofs.Common.{ap, ◌∙◌}
use Rattle.std.specs.Coded.{Coded, code_by}
use Rattle.value_model.specs.Val.{Val, vals_of, list_of}
use Rattle.value_model.specs.ValLaws.{list_of-vals_of}
use Rattle.value_model.specs.Coding.{to, from, back, vals_to, vals_from, vals_back, numbers_to, numbers_from, numbers_back, boolean_to, boolean_by}
use Rattle.value_model.specs.Coding.{boolean_back}
use Rattle.selector_match.specs.Query.{Query, no_clauses, clause, Clause, all_of, any_of, none_of, at_path, Queries, no_queries, query, Predicates}
use Rattle.selector_match.specs.Query.{no_predicates, predicate, Predicate, equal, not_equal, among, not_among, greater, at_least, less, at_most}
use Rattle.selector_match.specs.Query.{present, sized, has_all, has_element, negated, ElementTest, by_predicates, by_query}
use base.Stored.{Gv, gnil, gnum, gcons, num}
use denote.Struct.Codes.{itself}

abbrev pub path_to : List (List ℕ) → Gv
path_to [] = gnil
path_to (part ∷ parts) = gcons (numbers_to part) (path_to parts)

abbrev pub path_from : Gv → List (List ℕ)
path_from gnil = []
path_from (gnum n) = []
path_from (gcons part parts) = numbers_from part ∷ path_from parts

pub path_back : (path : List (List ℕ)) → path_from (path_to path) ≡ path
path_back [] = refl
path_back (part ∷ parts) = ap (λ p. p ∷ path_from (path_to parts)) (numbers_back part) ∙ ap (λ ps. part ∷ ps) (path_back parts)

abbrev pub list_to : List Val → Gv
list_to vs = vals_to (vals_of vs)

abbrev pub list_from : Gv → List Val
list_from g = list_of (vals_from g)

pub list_back : (vs : List Val) → list_from (list_to vs) ≡ vs
list_back vs = ap list_of (vals_back (vals_of vs)) ∙ list_of-vals_of vs

-- the operators with one value, by number
abbrev pub with_value : ℕ → Val → Predicate
with_value zero v = equal v
with_value (suc zero) v = not_equal v
with_value (suc (suc zero)) v = greater v
with_value (suc (suc (suc zero))) v = at_least v
with_value (suc (suc (suc (suc zero)))) v = less v
with_value (suc (suc (suc (suc (suc _))))) v = at_most v

-- the operators with a list of values, by number
abbrev pub with_list : ℕ → List Val → Predicate
with_list zero vs = among vs
with_list (suc zero) vs = not_among vs
with_list (suc (suc _)) vs = has_all vs

-- the connectives, by number
abbrev pub connective : ℕ → Queries → Clause
connective zero qs = all_of qs
connective (suc zero) qs = any_of qs
connective (suc (suc _)) qs = none_of qs

abbrev mutual
  pub query_to : Query → Gv
  query_to no_clauses = gnil
  query_to (clause c q) = gcons (clause_to c) (query_to q)

  pub clause_to : Clause → Gv
  clause_to (all_of qs) = gcons (gnum 0) (queries_to qs)
  clause_to (any_of qs) = gcons (gnum 1) (queries_to qs)
  clause_to (none_of qs) = gcons (gnum 2) (queries_to qs)
  clause_to (at_path path ps) = gcons (gcons gnil (path_to path)) (predicates_to ps)

  pub queries_to : Queries → Gv
  queries_to no_queries = gnil
  queries_to (query q qs) = gcons (query_to q) (queries_to qs)

  pub predicates_to : Predicates → Gv
  predicates_to no_predicates = gnil
  predicates_to (predicate p ps) = gcons (predicate_to p) (predicates_to ps)

  pub predicate_to : Predicate → Gv
  predicate_to (equal v) = gcons (gcons gnil (gnum 0)) (to v)
  predicate_to (not_equal v) = gcons (gcons gnil (gnum 1)) (to v)
  predicate_to (greater v) = gcons (gcons gnil (gnum 2)) (to v)
  predicate_to (at_least v) = gcons (gcons gnil (gnum 3)) (to v)
  predicate_to (less v) = gcons (gcons gnil (gnum 4)) (to v)
  predicate_to (at_most v) = gcons (gcons gnil (gnum 5)) (to v)
  predicate_to (among vs) = gcons (gcons (gnum 0) (gnum 0)) (list_to vs)
  predicate_to (not_among vs) = gcons (gcons (gnum 0) (gnum 1)) (list_to vs)
  predicate_to (has_all vs) = gcons (gcons (gnum 0) (gnum 2)) (list_to vs)
  predicate_to (present b) = gcons gnil (boolean_to b)
  predicate_to (sized n) = gnum n
  predicate_to (has_element t) = gcons (gnum 0) (test_to t)
  predicate_to (negated ps) = gcons (gnum 1) (predicates_to ps)

  pub test_to : ElementTest → Gv
  test_to (by_predicates ps) = gcons gnil (predicates_to ps)
  test_to (by_query q) = gcons (gnum 0) (query_to q)

abbrev mutual
  pub query_from : Gv → Query
  query_from gnil = no_clauses
  query_from (gnum n) = no_clauses
  query_from (gcons c q) = clause (clause_from c) (query_from q)

  pub clause_from : Gv → Clause
  clause_from gnil = all_of no_queries
  clause_from (gnum n) = all_of no_queries
  clause_from (gcons gnil rest) = all_of no_queries
  clause_from (gcons (gnum n) rest) = connective n (queries_from rest)
  clause_from (gcons (gcons a path) rest) = at_path (path_from path) (predicates_from rest)

  pub queries_from : Gv → Queries
  queries_from gnil = no_queries
  queries_from (gnum n) = no_queries
  queries_from (gcons q qs) = query (query_from q) (queries_from qs)

  pub predicates_from : Gv → Predicates
  predicates_from gnil = no_predicates
  predicates_from (gnum n) = no_predicates
  predicates_from (gcons p ps) = predicate (predicate_from p) (predicates_from ps)

  pub predicate_from : Gv → Predicate
  predicate_from gnil = sized 0
  predicate_from (gnum n) = sized n
  predicate_from (gcons gnil rest) = present (boolean_by (num rest))
  predicate_from (gcons (gnum zero) rest) = has_element (test_from rest)
  predicate_from (gcons (gnum (suc _)) rest) = negated (predicates_from rest)
  predicate_from (gcons (gcons gnil n) rest) = with_value (num n) (from rest)
  predicate_from (gcons (gcons (gnum _) n) rest) = with_list (num n) (list_from rest)
  predicate_from (gcons (gcons (gcons a b) n) rest) = sized 0

  pub test_from : Gv → ElementTest
  test_from gnil = by_query no_clauses
  test_from (gnum n) = by_query no_clauses
  test_from (gcons gnil rest) = by_predicates (predicates_from rest)
  test_from (gcons (gnum n) rest) = by_query (query_from rest)
  test_from (gcons (gcons a b) rest) = by_query no_clauses

mutual
  pub query_back : (q : Query) → query_from (query_to q) ≡ q
  query_back no_clauses = refl
  query_back (clause c q) = ap (λ x. clause x (query_from (query_to q))) (clause_back c) ∙ ap (λ x. clause c x) (query_back q)

  pub clause_back : (c : Clause) → clause_from (clause_to c) ≡ c
  clause_back (all_of qs) = ap all_of (queries_back qs)
  clause_back (any_of qs) = ap any_of (queries_back qs)
  clause_back (none_of qs) = ap none_of (queries_back qs)
  clause_back (at_path path ps) = ap (λ x. at_path x (predicates_from (predicates_to ps))) (path_back path) ∙ ap (λ x. at_path path x) (predicates_back ps)

  pub queries_back : (qs : Queries) → queries_from (queries_to qs) ≡ qs
  queries_back no_queries = refl
  queries_back (query q qs) = ap (λ x. query x (queries_from (queries_to qs))) (query_back q) ∙ ap (λ x. query q x) (queries_back qs)

  pub predicates_back : (ps : Predicates) → predicates_from (predicates_to ps) ≡ ps
  predicates_back no_predicates = refl
  predicates_back (predicate p ps) = ap (λ x. predicate x (predicates_from (predicates_to ps))) (predicate_back p)
      ∙ ap (λ x. predicate p x) (predicates_back ps)

  pub predicate_back : (p : Predicate) → predicate_from (predicate_to p) ≡ p
  predicate_back (equal v) = ap equal (back v)
  predicate_back (not_equal v) = ap not_equal (back v)
  predicate_back (greater v) = ap greater (back v)
  predicate_back (at_least v) = ap at_least (back v)
  predicate_back (less v) = ap less (back v)
  predicate_back (at_most v) = ap at_most (back v)
  predicate_back (among vs) = ap among (list_back vs)
  predicate_back (not_among vs) = ap not_among (list_back vs)
  predicate_back (has_all vs) = ap has_all (list_back vs)
  predicate_back (present b) = ap present (boolean_back b)
  predicate_back (sized n) = refl
  predicate_back (has_element t) = ap has_element (test_back t)
  predicate_back (negated ps) = ap negated (predicates_back ps)

  pub test_back : (t : ElementTest) → test_from (test_to t) ≡ t
  test_back (by_predicates ps) = ap by_predicates (predicates_back ps)
  test_back (by_query q) = ap by_query (query_back q)

abbrev pub query_code : Coded Query
query_code = code_by Gv itself query_to query_from query_back

abbrev pub queries_code : Coded Queries
queries_code = code_by Gv itself queries_to queries_from queries_back

abbrev pub predicates_code : Coded Predicates
predicates_code = code_by Gv itself predicates_to predicates_from predicates_back

abbrev pub test_code : Coded ElementTest
test_code = code_by Gv itself test_to test_from test_back
