-- What contracts see of a selector's parts.
use Rattle.std.specs.Prelude.{List, map}
use Rattle.ejson_value.specs.View.{view}
use Rattle.selector_match.specs.Query.{Query, Clause, all_of, any_of, none_of, at_path, Predicate, equal, not_equal, among, not_among, greater}
use Rattle.selector_match.specs.Query.{at_least, less, at_most, present, sized, has_all, has_element, negated, ElementTest, by_predicates, by_query}
use Rattle.selector_match.specs.Query.{Predicates, query_of, predicates_of}
use Rattle.selector_match.specs.Named.{has_id}
use Rattle.selector_match.specs.declared.selector.Condition.{Condition}
use Rattle.selector_match.specs.declared.selector.Condition.TheVariants as condition
use Rattle.selector_match.specs.declared.selector.Plain.{Plain}
use Rattle.selector_match.specs.declared.selector.Plain.TheVariants as plain
use Rattle.selector_match.specs.declared.selector.Operator.{Operator}
use Rattle.selector_match.specs.declared.selector.Operator.TheVariants as operator
use Rattle.selector_match.specs.declared.selector.TestKind.{TestKind}
use Rattle.selector_match.specs.declared.selector.TestKind.TheVariants as kind

abbrev pub clause_view : Condition → Clause
clause_view (condition.All qs) = all_of qs
clause_view (condition.Any qs) = any_of qs
clause_view (condition.Neither qs) = none_of qs
clause_view (condition.AtPath path ps) = at_path path ps
clause_view (condition.HasId id) = has_id id

abbrev pub plain_view : Plain → Predicate
plain_view (plain.Equal v) = equal (view v)
plain_view (plain.NotEqual v) = not_equal (view v)
plain_view (plain.Among vs) = among vs
plain_view (plain.NotAmong vs) = not_among vs
plain_view (plain.Greater v) = greater (view v)
plain_view (plain.AtLeast v) = at_least (view v)
plain_view (plain.Less v) = less (view v)
plain_view (plain.AtMost v) = at_most (view v)
plain_view (plain.Present b) = present b
plain_view (plain.Sized n) = sized n
plain_view (plain.HasAll vs) = has_all vs

abbrev pub predicate_view : Operator → Predicate
predicate_view (operator.Plain p) = plain_view p
predicate_view (operator.HasElement t) = has_element t
predicate_view (operator.Negated ps) = negated ps

abbrev pub kind_view : TestKind → ElementTest
kind_view (kind.Operators ps) = by_predicates ps
kind_view (kind.Fields q) = by_query q

abbrev pub clauses_view : List Condition → Query
clauses_view cs = query_of (map clause_view cs)

abbrev pub predicates_view : List Operator → Predicates
predicates_view ps = predicates_of (map predicate_view ps)
