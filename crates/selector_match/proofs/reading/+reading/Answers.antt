use Rattle.std.proofs.Common.{◌≡◌, ◌∷◌, [], ◌++◌, ◌+◌, suc, Ok, List, map, drop, get_or, ap, sym, subst, ◌∙◌, arith}
use Rattle.std.proofs.Math.Seq.{drop-cons}
use Rattle.std.proofs.lemmas.List.{append_assoc, map-append, drop_all}
use Rattle.value_model.specs.Val.{fields_of, vals_of}
use Rattle.ejson_value.specs.View.{view, views, entries}
use Rattle.ejson_value.proofs.Walks.{item_depth, field_depth}
use Rattle.selector_match.specs.Query.{Query, clause, query, predicate}
use Rattle.selector_match.specs.Named.{has_id}
use Rattle.selector_match.specs.View.{clause_view, predicate_view}
use Rattle.selector_match.specs.Reading.{Gives, reading, clauses_reading, clause_made, queries_reading, condition_reading, more_queries_reading, predicates_reading, predicate_made, operator_named, element_operand, set_operand}
use Rattle.ejson_value.specs.Results.{made, after}
use Rattle.ejson_value.specs.ResultLaws.{made_more}
use Rattle.selector_match.proofs.Front.{id_clause, after-query, after-queries, after-predicates, some_queries}
use Rattle.selector_match.proofs.reading.+reading.Goals as goal

pub read_conditions-read_condition-requires : goal.read_conditions-read_condition-requires
read_conditions-read_condition-requires t c =
    let done = c.loop-name.invariant.2.0 in
    let all = c.loop-name.invariant.2.1 ∙ ap (λ rest. done ++ rest) c.in-Some.ensures.steps in
    let less = field_depth c.into_iter-name-iterator.result done c.in-Some.name.now c.in-Some.value.now c.next.new.self c.args.fields.now all (ap entries c.into_iter-name-iterator.ensures.into_iter_gives ∙ c.iter-name-items.ensures.all) in
    (omega (arith, less, c.decreases), tt)

pub read_conditions-loop-name-preserved : goal.read_conditions-loop-name-preserved
read_conditions-loop-name-preserved t c =
    let done = c.loop-name.invariant.2.0 in
    let name = c.in-Some.name.now in
    let value = c.in-Some.value.now in
    let all = c.loop-name.invariant.2.1 ∙ ap (λ rest. done ++ rest) c.in-Some.ensures.steps in
    let made_so_far = map clause_view c.loop-name.conditions.items in
    let more = clauses_reading (fields_of (entries c.next.new.self)) in (
      tt,
      tt,
      (done ++ (name, value) ∷ [], all ∙ sym (append_assoc done ((name, value) ∷ []) c.next.new.self)),
      c.loop-name.invariant.3
          ∙ (ap (λ it. made (λ q. after clause made_so_far q) (clauses_reading (fields_of (entries it)))) c.in-Some.ensures.steps
          ∙ (made_more clause made_so_far (clause_view c.in_ok-condition.condition) (clause_made c.in-Some.name.now (queries_reading (view c.in-Some.value.now)) (condition_reading (view c.in-Some.value.now))) more c.in_ok-condition.ensures
          ∙ ap (λ xs. made (λ q. after clause xs q) more) (sym (ap (λ xs. map clause_view xs) c.in_ok-push.ensures.items ∙ map-append clause_view c.loop-name.conditions.items (c.in_ok-condition.condition ∷ []))))),
    )

pub read_conditions-returns : goal.read_conditions-returns
read_conditions-returns t c =
    let made_so_far = map clause_view c.loop-name.conditions.items in
    sym (ap (λ es. clauses_reading (fields_of es)) (ap entries c.into_iter-name-iterator.ensures.into_iter_gives ∙ c.iter-name-items.ensures.all))
    ∙ (c.loop-name.invariant.3
    ∙ (ap (λ it. made (λ q. after clause made_so_far q) (clauses_reading (fields_of (entries it)))) c.in-None.ensures.steps.0
    ∙ ap (λ q. Ok q) (after-query made_so_far)))

pub read_condition-returns-in-Some : goal.read_condition-returns-in-Some
read_condition-returns-in-Some t c =
    id_clause c.args.name.now (view c.args.value.now) c.in-Some.id.now c.in-Some.ensures.name c.in-Some.ensures.value
    ∙ ap (λ id. Ok (has_id id)) (sym c.in_ok-copied.ensures)

pub read_operators-read_operator-requires : goal.read_operators-read_operator-requires
read_operators-read_operator-requires t c =
    let done = c.loop-name.invariant.2.0 in
    let all = c.loop-name.invariant.2.1 ∙ ap (λ rest. done ++ rest) c.in-Some.ensures.steps in
    let less = field_depth c.into_iter-name-iterator.result done c.in-Some.name.now c.in-Some.value.now c.next.new.self c.args.fields.now all (ap entries c.into_iter-name-iterator.ensures.into_iter_gives ∙ c.iter-name-items.ensures.all) in
    (omega (arith, less, c.decreases), tt)

pub read_operators-loop-name-preserved : goal.read_operators-loop-name-preserved
read_operators-loop-name-preserved t c =
    let done = c.loop-name.invariant.2.0 in
    let name = c.in-Some.name.now in
    let value = c.in-Some.value.now in
    let all = c.loop-name.invariant.2.1 ∙ ap (λ rest. done ++ rest) c.in-Some.ensures.steps in
    let made_so_far = map predicate_view c.loop-name.operators.items in
    let more = predicates_reading (fields_of (entries c.next.new.self)) in (
      tt,
      tt,
      (done ++ (name, value) ∷ [], all ∙ sym (append_assoc done ((name, value) ∷ []) c.next.new.self)),
      c.loop-name.invariant.3
          ∙ (ap (λ it. made (λ q. after predicate made_so_far q) (predicates_reading (fields_of (entries it)))) c.in-Some.ensures.steps
          ∙ (made_more predicate made_so_far (predicate_view c.in_ok-operator.operator) (predicate_made (operator_named c.in-Some.name.now) (view c.in-Some.value.now) (element_operand (view c.in-Some.value.now)) (set_operand (view c.in-Some.value.now))) more c.in_ok-operator.ensures
          ∙ ap (λ xs. made (λ q. after predicate xs q) more) (sym (ap (λ xs. map predicate_view xs) c.in_ok-push.ensures.items ∙ map-append predicate_view c.loop-name.operators.items (c.in_ok-operator.operator ∷ []))))),
    )

pub read_operators-returns : goal.read_operators-returns
read_operators-returns t c =
    let made_so_far = map predicate_view c.loop-name.operators.items in
    sym (ap (λ es. predicates_reading (fields_of es)) (ap entries c.into_iter-name-iterator.ensures.into_iter_gives ∙ c.iter-name-items.ensures.all))
    ∙ (c.loop-name.invariant.3
    ∙ (ap (λ it. made (λ q. after predicate made_so_far q) (predicates_reading (fields_of (entries it)))) c.in-None.ensures.steps.0
    ∙ ap (λ q. Ok q) (after-predicates made_so_far)))

pub read_each-read_selector-requires : goal.read_each-read_selector-requires
read_each-read_selector-requires t c =
    let less = item_depth c.as_slice-item-items.result.now c.loop-item.item-index c.item-item.result c.args.items.now c.item-item.is c.loop-item-test.true c.as_slice-item-items.ensures in
    (omega (arith, less, c.decreases), tt)

pub read_each-loop-item-preserved : goal.read_each-loop-item-preserved
read_each-loop-item-preserved t c =
    let items = c.as_slice-item-items.result.now in
    let i = c.loop-item.item-index in
    let so_far = c.loop-item.selectors.items in
    let more = more_queries_reading (vals_of (views (drop (suc i) items))) in
    let one_more : suc i ≡ i + 1 = omega arith in
    c.loop-item.invariant
    ∙ (ap (λ vs. made (λ q. after query so_far q) (more_queries_reading (vals_of (views vs)))) (drop-cons items i c.item-item.result c.loop-item-test.true)
    ∙ (made_more query so_far c.in_ok-selector.selector (reading (view (get_or items i c.item-item.result))) more (ap (λ v. reading (view v)) (sym c.item-item.is) ∙ c.in_ok-selector.ensures)
    ∙ (ap (λ (qs : List Query). made (λ q. after query qs q) more) (sym c.in_ok-push.ensures.items)
    ∙ ap (λ n. made (λ q. after query c.push.new.self.items q) (more_queries_reading (vals_of (views (drop n items))))) one_more)))

pub read_each-returns : goal.read_each-returns
read_each-returns t c =
    let items = c.as_slice-item-items.result.now in
    let so_far = c.loop-item.selectors.items in
    sym (ap (λ vs. more_queries_reading (vals_of vs)) c.as_slice-item-items.ensures)
    ∙ (c.loop-item.invariant
    ∙ (ap (λ vs. made (λ q. after query so_far q) (more_queries_reading (vals_of (views vs)))) (drop_all c.loop-item.item-index items c.loop-item-test.false)
    ∙ ap (λ q. Ok q) (after-queries so_far)))

pub read_selectors-returns-else-is_empty : goal.read_selectors-returns-else-is_empty
read_selectors-returns-else-is_empty t c =
    subst (λ r. Gives (λ qs. qs) c.read_each.result r)
    (some_queries c.in-List.items (sym c.is_empty.ensures ∙ c.if-is_empty.false) ∙ ap (λ v. queries_reading (view v)) (sym c.in-List.is))
    c.read_each.ensures
