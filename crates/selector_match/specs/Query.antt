-- Selectors as data: conditions on a document, all of which must hold.
use Rattle.std.specs.Prelude.{ℕ, suc, max, Bool, List, [], ◌∷◌}
use Rattle.value_model.specs.Val.{Val}

mutual
  -- the conditions of a selector
  pub data Query : Type 0 where
    no_clauses : Query
    clause : Clause → Query → Query

  -- One condition: `$and`, `$or` and `$nor` of selectors, or operators at a path.
  pub data Clause : Type 0 where
    all_of : Queries → Clause
    any_of : Queries → Clause
    none_of : Queries → Clause
    at_path : List (List ℕ) → Predicates → Clause

  pub data Queries : Type 0 where
    no_queries : Queries
    query : Query → Queries → Queries

  -- a set of operators
  pub data Predicates : Type 0 where
    no_predicates : Predicates
    predicate : Predicate → Predicates → Predicates

  -- One operator with its operand: in this order `$eq`, `$ne`, `$in`, `$nin`, `$gt`, `$gte`, `$lt`, `$lte`, `$exists`, `$size`, `$all`, `$elemMatch`
  -- and `$not`.
  pub data Predicate : Type 0 where
    equal : Val → Predicate
    not_equal : Val → Predicate
    among : List Val → Predicate
    not_among : List Val → Predicate
    greater : Val → Predicate
    at_least : Val → Predicate
    less : Val → Predicate
    at_most : Val → Predicate
    present : Bool → Predicate
    sized : ℕ → Predicate
    has_all : List Val → Predicate
    has_element : ElementTest → Predicate
    negated : Predicates → Predicate

  -- the test of an element, in `$elemMatch` and `$pull`
  pub data ElementTest : Type 0 where
    by_predicates : Predicates → ElementTest
    by_query : Query → ElementTest

abbrev pub query_of : List Clause → Query
query_of [] = no_clauses
query_of (c ∷ cs) = clause c (query_of cs)

abbrev pub queries_of : List Query → Queries
queries_of [] = no_queries
queries_of (q ∷ qs) = query q (queries_of qs)

abbrev pub predicates_of : List Predicate → Predicates
predicates_of [] = no_predicates
predicates_of (p ∷ ps) = predicate p (predicates_of ps)

-- How deep selectors and sets of operators stand in one another.
abbrev mutual
  pub query_height : Query → ℕ
  query_height no_clauses = 0
  query_height (clause c q) = max (clause_height c) (query_height q)

  pub clause_height : Clause → ℕ
  clause_height (all_of qs) = suc (queries_height qs)
  clause_height (any_of qs) = suc (queries_height qs)
  clause_height (none_of qs) = suc (queries_height qs)
  clause_height (at_path path ps) = suc (predicates_height ps)

  pub queries_height : Queries → ℕ
  queries_height no_queries = 0
  queries_height (query q qs) = max (suc (query_height q)) (queries_height qs)

  pub predicates_height : Predicates → ℕ
  predicates_height no_predicates = 0
  predicates_height (predicate p ps) = max (predicate_height p) (predicates_height ps)

  pub predicate_height : Predicate → ℕ
  predicate_height (has_element t) = suc (test_height t)
  predicate_height (negated ps) = suc (predicates_height ps)
  predicate_height _ = 0

  pub test_height : ElementTest → ℕ
  test_height (by_predicates ps) = suc (predicates_height ps)
  test_height (by_query q) = suc (query_height q)
