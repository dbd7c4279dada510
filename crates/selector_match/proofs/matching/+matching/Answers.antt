use Rattle.std.proofs.Common.{ap, sym, ◌∙◌, rules, option_map}
use Rattle.std.specs.List.{list_any, list_all}
use Rattle.value_model.specs.Val.{vals_of}
use Rattle.value_model.specs.Branches.{Branch}
use Rattle.ejson_value.specs.View.{view}
use Rattle.ejson_value.specs.declared.value.Value.{Value}
use Rattle.selector_match.specs.declared.selector.Condition.{Condition}
use Rattle.selector_match.specs.declared.selector.Operator.{Operator}
use Rattle.selector_match.specs.Query.{Query}
use Rattle.selector_match.specs.View.{clause_view, predicate_view}
use Rattle.selector_match.specs.Holds.{elements, query_holds, clause_holds, all_hold, some_holds, predicates_hold, predicate_holds, fits}
use Rattle.selector_match.specs.Reached.{reached_view}
use Rattle.selector_match.specs.Asked.{subject_branches, fields_seen}
use Rattle.selector_match.proofs.Loops.{elements-list, none_more, some_here, none_at_all, all_more, not_here, all_of_them, list_any-map, all_hold-is, some_holds-is, query_holds-is, predicates_hold-is}
use Rattle.selector_match.proofs.matching.+matching.Goals as goal

pub some_element_fits-returns-then-fits : goal.some_element_fits-returns-then-fits
some_element_fits-returns-then-fits t c =
    let test = λ (v : Value). fits c.args.test.now (view v) in
    sym (list_any-map _ view c.args.elements.now ∙ some_here test c.args.elements.now c.loop-element.element-index c.element-item.result c.loop-element-test.true c.element-item.is (sym c.fits.ensures ∙ c.if-fits.true))

pub some_element_fits-loop-element-preserved : goal.some_element_fits-loop-element-preserved
some_element_fits-loop-element-preserved t c =
    let test = λ (v : Value). fits c.args.test.now (view v) in
    none_more test c.args.elements.now c.loop-element.element-index c.element-item.result c.loop-element-test.true c.element-item.is c.loop-element.invariant (sym c.fits.ensures ∙ c.if-fits.false)

pub some_element_fits-returns : goal.some_element_fits-returns
some_element_fits-returns t c =
    let test = λ (v : Value). fits c.args.test.now (view v) in
    sym (list_any-map _ view c.args.elements.now ∙ none_at_all test c.args.elements.now c.loop-element.element-index c.loop-element-test.false c.loop-element.invariant)

pub operators_hold-returns-then-not-operator_holds : goal.operators_hold-returns-then-not-operator_holds
operators_hold-returns-then-not-operator_holds t c =
    let test = λ (p : Operator). predicate_holds (predicate_view p) (subject_branches c.args.subject) in
    sym (sym (ap (λ x. predicates_hold x (subject_branches c.args.subject)) c.operators.view_is) ∙ (predicates_hold-is c.operators.inside.operators.items _ ∙ ap (λ xs. list_all test xs) (sym c.deref-operator-items.ensures.value)) ∙ not_here test c.deref-operator-items.result.now c.loop-operator.operator-index c.operator-item.result c.loop-operator-test.true c.operator-item.is (sym c.operator_holds.ensures ∙ c.if-not-operator_holds.true))

pub operators_hold-loop-operator-preserved : goal.operators_hold-loop-operator-preserved
operators_hold-loop-operator-preserved t c =
    let test = λ (p : Operator). predicate_holds (predicate_view p) (subject_branches c.args.subject) in
    all_more test c.deref-operator-items.result.now c.loop-operator.operator-index c.operator-item.result c.loop-operator-test.true c.operator-item.is c.loop-operator.invariant (sym c.operator_holds.ensures ∙ c.if-not-operator_holds.false)

pub operators_hold-returns : goal.operators_hold-returns
operators_hold-returns t c =
    let test = λ (p : Operator). predicate_holds (predicate_view p) (subject_branches c.args.subject) in
    sym (sym (ap (λ x. predicates_hold x (subject_branches c.args.subject)) c.operators.view_is) ∙ (predicates_hold-is c.operators.inside.operators.items _ ∙ ap (λ xs. list_all test xs) (sym c.deref-operator-items.ensures.value)) ∙ all_of_them test c.deref-operator-items.result.now c.loop-operator.operator-index c.loop-operator-test.false c.loop-operator.invariant)

pub all_hold-returns-then-not-selector_holds : goal.all_hold-returns-then-not-selector_holds
all_hold-returns-then-not-selector_holds t c =
    let test = λ (q : Query). query_holds q (fields_seen c.args.id c.args.doc.now) in
    sym (sym (ap (λ x. all_hold x (fields_seen c.args.id c.args.doc.now)) c.selectors.view_is) ∙ (all_hold-is c.selectors.inside.selectors.items _ ∙ ap (λ xs. list_all test xs) (sym c.deref-selector-items.ensures.value)) ∙ not_here test c.deref-selector-items.result.now c.loop-selector.selector-index c.selector-item.result c.loop-selector-test.true c.selector-item.is (sym c.selector_holds.ensures ∙ c.if-not-selector_holds.true))

pub all_hold-loop-selector-preserved : goal.all_hold-loop-selector-preserved
all_hold-loop-selector-preserved t c =
    let test = λ (q : Query). query_holds q (fields_seen c.args.id c.args.doc.now) in
    all_more test c.deref-selector-items.result.now c.loop-selector.selector-index c.selector-item.result c.loop-selector-test.true c.selector-item.is c.loop-selector.invariant (sym c.selector_holds.ensures ∙ c.if-not-selector_holds.false)

pub all_hold-returns : goal.all_hold-returns
all_hold-returns t c =
    let test = λ (q : Query). query_holds q (fields_seen c.args.id c.args.doc.now) in
    sym (sym (ap (λ x. all_hold x (fields_seen c.args.id c.args.doc.now)) c.selectors.view_is) ∙ (all_hold-is c.selectors.inside.selectors.items _ ∙ ap (λ xs. list_all test xs) (sym c.deref-selector-items.ensures.value)) ∙ all_of_them test c.deref-selector-items.result.now c.loop-selector.selector-index c.loop-selector-test.false c.loop-selector.invariant)

pub some_holds-returns-then-selector_holds : goal.some_holds-returns-then-selector_holds
some_holds-returns-then-selector_holds t c =
    let test = λ (q : Query). query_holds q (fields_seen c.args.id c.args.doc.now) in
    sym (sym (ap (λ x. some_holds x (fields_seen c.args.id c.args.doc.now)) c.selectors.view_is) ∙ (some_holds-is c.selectors.inside.selectors.items _ ∙ ap (λ xs. list_any test xs) (sym c.deref-selector-items.ensures.value)) ∙ some_here test c.deref-selector-items.result.now c.loop-selector.selector-index c.selector-item.result c.loop-selector-test.true c.selector-item.is (sym c.selector_holds.ensures ∙ c.if-selector_holds.true))

pub some_holds-loop-selector-preserved : goal.some_holds-loop-selector-preserved
some_holds-loop-selector-preserved t c =
    let test = λ (q : Query). query_holds q (fields_seen c.args.id c.args.doc.now) in
    none_more test c.deref-selector-items.result.now c.loop-selector.selector-index c.selector-item.result c.loop-selector-test.true c.selector-item.is c.loop-selector.invariant (sym c.selector_holds.ensures ∙ c.if-selector_holds.false)

pub some_holds-returns : goal.some_holds-returns
some_holds-returns t c =
    let test = λ (q : Query). query_holds q (fields_seen c.args.id c.args.doc.now) in
    sym (sym (ap (λ x. some_holds x (fields_seen c.args.id c.args.doc.now)) c.selectors.view_is) ∙ (some_holds-is c.selectors.inside.selectors.items _ ∙ ap (λ xs. list_any test xs) (sym c.deref-selector-items.ensures.value)) ∙ none_at_all test c.deref-selector-items.result.now c.loop-selector.selector-index c.loop-selector-test.false c.loop-selector.invariant)

pub selector_holds-returns-then-not-condition_holds : goal.selector_holds-returns-then-not-condition_holds
selector_holds-returns-then-not-condition_holds t c =
    let test = λ (x : Condition). clause_holds (clause_view x) (fields_seen c.args.id c.args.doc.now) in
    sym (sym (ap (λ x. query_holds x (fields_seen c.args.id c.args.doc.now)) c.selector.view_is) ∙ (query_holds-is c.selector.inside.conditions.items _ ∙ ap (λ xs. list_all test xs) (sym c.deref-condition-items.ensures.value)) ∙ not_here test c.deref-condition-items.result.now c.loop-condition.condition-index c.condition-item.result c.loop-condition-test.true c.condition-item.is (sym c.condition_holds.ensures ∙ c.if-not-condition_holds.true))

pub selector_holds-loop-condition-preserved : goal.selector_holds-loop-condition-preserved
selector_holds-loop-condition-preserved t c =
    let test = λ (x : Condition). clause_holds (clause_view x) (fields_seen c.args.id c.args.doc.now) in
    all_more test c.deref-condition-items.result.now c.loop-condition.condition-index c.condition-item.result c.loop-condition-test.true c.condition-item.is c.loop-condition.invariant (sym c.condition_holds.ensures ∙ c.if-not-condition_holds.false)

pub selector_holds-returns : goal.selector_holds-returns
selector_holds-returns t c =
    let test = λ (x : Condition). clause_holds (clause_view x) (fields_seen c.args.id c.args.doc.now) in
    sym (sym (ap (λ x. query_holds x (fields_seen c.args.id c.args.doc.now)) c.selector.view_is) ∙ (query_holds-is c.selector.inside.conditions.items _ ∙ ap (λ xs. list_all test xs) (sym c.deref-condition-items.ensures.value)) ∙ all_of_them test c.deref-condition-items.result.now c.loop-condition.condition-index c.loop-condition-test.false c.loop-condition.invariant)

pub has_fitting-returns-in-Some : goal.has_fitting-returns-in-Some
has_fitting-returns-in-Some t c =
    let reached = reached_view c.args.reached in
    let is = sym c.reached_list.ensures ∙ ap (λ o. option_map (λ vs. vals_of vs.now) o) c.in-Some.is in
    c.some_element_fits.ensures ∙ ap (λ vs. list_any (λ v. fits c.args.test.now v) vs) (c.as_slice.ensures ∙ sym (elements-list reached c.in-Some.items.now is))

pub some_fitting-returns-in-Branches : goal.some_fitting-returns-in-Branches
some_fitting-returns-in-Branches t c =
    c.some_branch.ensures (λ x whole. list_any (λ v. fits c.args.test.now v) (elements x)) (λ x whole r h. search rules)
    ∙ ap (λ s. list_any (λ (b : Branch). list_any (λ v. fits c.args.test.now v) (elements b.0)) (subject_branches s)) (sym c.in-Branches.is)
