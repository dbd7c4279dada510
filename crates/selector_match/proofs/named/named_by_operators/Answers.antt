use Rattle.std.proofs.Common.{◌≡◌, suc, ◌+◌, take, option_copied, ap, sym, ◌∙◌, arith}
use Rattle.std.proofs.lemmas.List.{take_all}
use Rattle.selector_match.specs.declared.selector.Operator.{Operator}
use Rattle.selector_match.specs.View.{predicate_view}
use Rattle.selector_match.specs.Named.{named_by_predicate, named_by_predicates}
use Rattle.selector_match.proofs.Naming.{first_found, found_more, found_here, named_by_predicates-is}
use Rattle.selector_match.proofs.named.named_by_operators.Goals as goal

pub returns-in-Some : goal.returns-in-Some
returns-in-Some c =
    let test = λ (x : Operator). named_by_predicate (predicate_view x) in
    sym (sym (ap (λ x. named_by_predicates x) c.operators.view_is) ∙ (named_by_predicates-is c.operators.inside.operators.items ∙ (ap (λ xs. first_found test xs) (sym c.deref-operator-items.ensures.value) ∙ found_here test c.deref-operator-items.result.now c.loop-operator.operator-index c.operator-item.result c.in-Some.text.now c.loop-operator-test.true c.loop-operator.invariant (ap test (sym c.operator-item.is) ∙ (sym c.named_by_operator.ensures ∙ ap (λ o. option_copied o) c.in-Some.is)))))

pub loop-operator-preserved : goal.loop-operator-preserved
loop-operator-preserved c =
    let test = λ (x : Operator). named_by_predicate (predicate_view x) in
    let one_more : suc c.loop-operator.operator-index ≡ c.loop-operator.operator-index + 1 = omega arith in
    ap (λ n. first_found test (take n c.deref-operator-items.result.now)) (sym one_more)
    ∙ found_more test c.deref-operator-items.result.now c.loop-operator.operator-index c.operator-item.result c.loop-operator-test.true c.loop-operator.invariant
    (ap test (sym c.operator-item.is) ∙ (sym c.named_by_operator.ensures ∙ ap (λ o. option_copied o) c.in-None.is))

pub returns : goal.returns
returns c =
    let test = λ (x : Operator). named_by_predicate (predicate_view x) in
    sym (sym (ap (λ x. named_by_predicates x) c.operators.view_is) ∙ (named_by_predicates-is c.operators.inside.operators.items ∙ (ap (λ xs. first_found test xs) (sym c.deref-operator-items.ensures.value) ∙ (ap (λ xs. first_found test xs) (sym (take_all c.loop-operator.operator-index c.deref-operator-items.result.now c.loop-operator-test.false)) ∙ c.loop-operator.invariant))))
