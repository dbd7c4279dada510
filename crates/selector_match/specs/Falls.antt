-- The parts of a selector stand less deep than the selector.
use Rattle.std.specs.Prelude.{◌+◌, ◌≤◌, List, [], ◌∷◌}
use Rattle.std.proofs.Common.{arith}
use denote.Param.Weighed.{most}
use Rattle.selector_match.specs.Query.{Query, queries_of, query_height, queries_height, predicates_height, predicate_height, test_height}
use Rattle.selector_match.specs.declared.selector.Condition.{Condition}
use Rattle.selector_match.specs.declared.selector.Condition.TheVariants as condition
use Rattle.selector_match.specs.declared.selector.Operator.{Operator}
use Rattle.selector_match.specs.declared.selector.Operator.TheVariants as operator
use Rattle.selector_match.specs.declared.selector.TestKind.{TestKind}
use Rattle.selector_match.specs.declared.selector.TestKind.TheVariants as kind
use Rattle.selector_match.specs.declared.selector.Operators.TheDeep.{deep-Condition, deep-Operator, deep-TestKind}
use Rattle.selector_match.specs.View.{predicate_view, kind_view, clauses_view, predicates_view}

pub most_le-query_height : (cs : List Condition) → most (λ c. deep-Condition c) cs ≤ query_height (clauses_view cs)
most_le-query_height [] = omega arith
most_le-query_height (condition.All qs ∷ cs) = omega (arith, most_le-query_height cs)
most_le-query_height (condition.Any qs ∷ cs) = omega (arith, most_le-query_height cs)
most_le-query_height (condition.Neither qs ∷ cs) = omega (arith, most_le-query_height cs)
most_le-query_height (condition.AtPath path ps ∷ cs) = omega (arith, most_le-query_height cs)
most_le-query_height (condition.HasId id ∷ cs) = omega (arith, most_le-query_height cs)

pub most_le-queries_height : (qs : List Query) → most (λ q. query_height q + 1) qs ≤ queries_height (queries_of qs)
most_le-queries_height [] = omega arith
most_le-queries_height (q ∷ qs) = omega (arith, most_le-queries_height qs)

deep_le : (p : Operator) → deep-Operator p ≤ predicate_height (predicate_view p)
deep_le (operator.HasElement t) = omega arith
deep_le (operator.Negated ps) = omega arith
deep_le _ = omega arith

pub most_le-predicates_height : (ps : List Operator) → most (λ p. deep-Operator p) ps ≤ predicates_height (predicates_view ps)
most_le-predicates_height [] = omega arith
most_le-predicates_height (p ∷ ps) = omega (arith, deep_le p, most_le-predicates_height ps)

pub deep_le-test_height : (k : TestKind) → deep-TestKind k ≤ test_height (kind_view k)
deep_le-test_height (kind.Operators ps) = omega arith
deep_le-test_height (kind.Fields q) = omega arith
