use Rattle.std.proofs.Common.{◌≡◌, ℕ, ◌+◌, ◌*◌, List, ◌++◌, map, drop}
use Rattle.value_model.specs.Val.{vals_of, fields_of}
use Rattle.value_model.specs.Depth.{depth, vals_depth, fields_depth}
use Rattle.ejson_value.specs.declared.value.Value.{Value}
use Rattle.ejson_value.specs.View.{view, views, entries}
use Rattle.selector_match.specs.Query.{clause, query, predicate}
use Rattle.selector_match.specs.View.{clause_view, predicate_view}
use Rattle.selector_match.specs.Reading.{clauses_reading, more_queries_reading, predicates_reading}
use Rattle.ejson_value.specs.Results.{made, after}
use Rattle.selector_match.proofs.reading.+reading.Given as goal

abbrev pub decreases-read_selector : goal.decreases-read_selector
decreases-read_selector l = 8 * depth (view l.value.now)

abbrev pub decreases-read_conditions : goal.decreases-read_conditions
decreases-read_conditions l = 8 * fields_depth (fields_of l.fields.now) + 6

abbrev pub decreases-read_condition : goal.decreases-read_condition
decreases-read_condition l = 8 * depth (view l.value.now) + 5

abbrev pub decreases-read_selectors : goal.decreases-read_selectors
decreases-read_selectors l = 8 * depth (view l.value.now) + 3

abbrev pub decreases-read_each : goal.decreases-read_each
decreases-read_each l = 8 * vals_depth (vals_of l.items.now) + 1

abbrev pub decreases-read_path_value : goal.decreases-read_path_value
decreases-read_path_value l = 8 * depth (view l.value.now) + 3

abbrev pub decreases-read_operators : goal.decreases-read_operators
decreases-read_operators l = 8 * fields_depth (fields_of l.fields.now) + 6

abbrev pub decreases-read_operator : goal.decreases-read_operator
decreases-read_operator l = 8 * depth (view l.value.now) + 5

abbrev pub decreases-read_element_operand : goal.decreases-read_element_operand
decreases-read_element_operand l = 8 * depth (view l.value.now) + 4

abbrev pub decreases-read_set_operand : goal.decreases-read_set_operand
decreases-read_set_operand l = 8 * depth (view l.value.now) + 4

abbrev pub invariant-read_conditions-loop-name : goal.invariant-read_conditions-loop-name
invariant-read_conditions-loop-name l =
    (goal.iterator-read_conditions-loop-name).can_next l.name-iterator ×
    (goal.iterator-read_conditions-loop-name).is_finite l.name-iterator ×
    ((done : List (List ℕ × Value)) × (l.initial.name-iterator ≡ done ++ l.name-iterator)) ×
    (clauses_reading (fields_of (entries l.initial.name-iterator)) ≡ made (λ q. after clause (map clause_view l.conditions.items) q) (clauses_reading (fields_of (entries l.name-iterator))))

abbrev pub invariant-read_operators-loop-name : goal.invariant-read_operators-loop-name
invariant-read_operators-loop-name l =
    (goal.iterator-read_operators-loop-name).can_next l.name-iterator ×
    (goal.iterator-read_operators-loop-name).is_finite l.name-iterator ×
    ((done : List (List ℕ × Value)) × (l.initial.name-iterator ≡ done ++ l.name-iterator)) ×
    (predicates_reading (fields_of (entries l.initial.name-iterator)) ≡ made (λ q. after predicate (map predicate_view l.operators.items) q) (predicates_reading (fields_of (entries l.name-iterator))))

abbrev pub invariant-read_each-loop-item : goal.invariant-read_each-loop-item
invariant-read_each-loop-item l =
    more_queries_reading (vals_of (views l.item-items)) ≡ made (λ q. after query l.selectors.items q) (more_queries_reading (vals_of (views (drop l.item-index l.item-items))))
