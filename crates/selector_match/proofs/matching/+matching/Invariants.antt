use Rattle.std.proofs.Common.{◌≡◌, ◌+◌, ◌*◌, false, true, take}
use Rattle.std.specs.List.{list_any, list_all}
use Rattle.ejson_value.specs.View.{view}
use Rattle.selector_match.specs.Query.{query_height, clause_height, queries_height, predicates_height, predicate_height, test_height}
use Rattle.selector_match.specs.View.{clause_view, predicate_view}
use Rattle.selector_match.specs.Holds.{query_holds, clause_holds, predicate_holds, fits}
use Rattle.selector_match.specs.Asked.{subject_branches, fields_seen}
use Rattle.selector_match.proofs.matching.+matching.Given as goal

abbrev pub decreases-has_fitting : goal.decreases-has_fitting
decreases-has_fitting l = 12 * test_height l.test.now + 10

abbrev pub decreases-some_fitting-some_branch : goal.decreases-some_fitting-some_branch
decreases-some_fitting-some_branch l = 12 * test_height l.test.now + 11

abbrev pub decreases-some_fitting : goal.decreases-some_fitting
decreases-some_fitting l = 12 * test_height l.test.now + 12

abbrev pub decreases-some_element_fits : goal.decreases-some_element_fits
decreases-some_element_fits l = 12 * test_height l.test.now + 9

abbrev pub decreases-fits : goal.decreases-fits
decreases-fits l = 12 * test_height l.test.now + 8

abbrev pub decreases-operator_holds : goal.decreases-operator_holds
decreases-operator_holds l = 12 * predicate_height (predicate_view l.operator.now) + 5

abbrev pub decreases-operators_hold : goal.decreases-operators_hold
decreases-operators_hold l = 12 * predicates_height l.operators.now + 6

abbrev pub decreases-condition_holds : goal.decreases-condition_holds
decreases-condition_holds l = 12 * clause_height (clause_view l.condition.now) + 5

abbrev pub decreases-all_hold : goal.decreases-all_hold
decreases-all_hold l = 12 * queries_height l.selectors.now + 7

abbrev pub decreases-some_holds : goal.decreases-some_holds
decreases-some_holds l = 12 * queries_height l.selectors.now + 7

abbrev pub decreases-selector_holds : goal.decreases-selector_holds
decreases-selector_holds l = 12 * query_height l.selector.now + 6

abbrev pub invariant-some_element_fits-loop-element : goal.invariant-some_element_fits-loop-element
invariant-some_element_fits-loop-element l = list_any (λ v. fits l.test (view v)) (take l.element-index l.elements) ≡ false

abbrev pub invariant-operators_hold-loop-operator : goal.invariant-operators_hold-loop-operator
invariant-operators_hold-loop-operator l = list_all (λ p. predicate_holds (predicate_view p) (subject_branches l.subject)) (take l.operator-index l.operator-items) ≡ true

abbrev pub invariant-all_hold-loop-selector : goal.invariant-all_hold-loop-selector
invariant-all_hold-loop-selector l = list_all (λ q. query_holds q (fields_seen l.id l.doc)) (take l.selector-index l.selector-items) ≡ true

abbrev pub invariant-some_holds-loop-selector : goal.invariant-some_holds-loop-selector
invariant-some_holds-loop-selector l = list_any (λ q. query_holds q (fields_seen l.id l.doc)) (take l.selector-index l.selector-items) ≡ false

abbrev pub invariant-selector_holds-loop-condition : goal.invariant-selector_holds-loop-condition
invariant-selector_holds-loop-condition l = list_all (λ c. clause_holds (clause_view c) (fields_seen l.id l.doc)) (take l.condition-index l.condition-items) ≡ true
