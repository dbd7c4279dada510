use Rattle.std.proofs.Common.{◌≡◌, ◌+◌, ◌*◌, ◌++◌, map, drop}
use Rattle.selector_match.specs.Query.{query_height, clause_height, queries_height, predicates_height, predicate_height, test_height}
use Rattle.selector_match.specs.View.{clause_view, predicate_view}
use Rattle.selector_match.proofs.+copying.Given as goal

abbrev pub decreases-copying::copy_condition : goal.decreases-copying::copy_condition
decreases-copying::copy_condition l = 4 * clause_height (clause_view l.condition.now)

abbrev pub decreases-copying::copy_selectors : goal.decreases-copying::copy_selectors
decreases-copying::copy_selectors l = 4 * queries_height l.selectors.now + 2

abbrev pub decreases-copying::copy_operators : goal.decreases-copying::copy_operators
decreases-copying::copy_operators l = 4 * predicates_height l.operators.now + 1

abbrev pub decreases-copying::copy_operator : goal.decreases-copying::copy_operator
decreases-copying::copy_operator l = 4 * predicate_height (predicate_view l.operator.now)

abbrev pub decreases-selector::Selector::copy : goal.decreases-selector::Selector::copy
decreases-selector::Selector::copy l = 4 * query_height l.self.now + 1

abbrev pub decreases-selector::Test::copy : goal.decreases-selector::Test::copy
decreases-selector::Test::copy l = 4 * test_height l.self.now

abbrev pub invariant-copying::copy_selectors-loop-selector : goal.invariant-copying::copy_selectors-loop-selector
invariant-copying::copy_selectors-loop-selector l = l.selector-items ≡ l.copies.items ++ drop l.selector-index l.selector-items

abbrev pub invariant-copying::copy_operators-loop-operator : goal.invariant-copying::copy_operators-loop-operator
invariant-copying::copy_operators-loop-operator l = map predicate_view l.operator-items ≡ map predicate_view l.copies.items ++ map predicate_view (drop l.operator-index l.operator-items)

abbrev pub invariant-selector::Selector::copy-loop-condition : goal.invariant-selector::Selector::copy-loop-condition
invariant-selector::Selector::copy-loop-condition l = map clause_view l.condition-items ≡ map clause_view l.copies.items ++ map clause_view (drop l.condition-index l.condition-items)
