use Rattle.std.proofs.Common.{◌≡◌, suc, ◌+◌, take, option_copied, ap, sym, ◌∙◌, arith}
use Rattle.std.proofs.lemmas.List.{take_all}
use Rattle.selector_match.specs.declared.selector.Condition.{Condition}
use Rattle.selector_match.specs.View.{clause_view}
use Rattle.selector_match.specs.Named.{named_by_clause, named_id}
use Rattle.selector_match.proofs.Naming.{first_found, found_more, found_here, named_id-is, named_only}
use Rattle.selector_match.proofs.selector.Selector.named_id.Goals as goal

pub returns-in-Some-clause-named : goal.returns-in-Some-clause-named
returns-in-Some-clause-named c =
    let test = λ (x : Condition). named_by_clause (clause_view x) in
    sym (sym (ap (λ x. named_id x) c.self.view_is) ∙ (named_id-is c.self.inside.conditions.items ∙ (ap (λ xs. first_found test xs) (sym c.deref-condition-items.ensures.value) ∙ found_here test c.deref-condition-items.result.now c.loop-condition.condition-index c.condition-item.result c.in-Some.text.now c.loop-condition-test.true c.loop-condition.invariant (ap test (sym c.condition-item.is) ∙ (sym c.named_by_condition.ensures ∙ ap (λ o. option_copied o) c.in-Some.is)))))

pub returns-in-Some-clause-only : goal.returns-in-Some-clause-only
returns-in-Some-clause-only c =
    let test = λ (x : Condition). named_by_clause (clause_view x) in
    let named = sym (sym (sym (ap (λ x. named_id x) c.self.view_is) ∙ (named_id-is c.self.inside.conditions.items ∙ (ap (λ xs. first_found test xs) (sym c.deref-condition-items.ensures.value) ∙ found_here test c.deref-condition-items.result.now c.loop-condition.condition-index c.condition-item.result c.in-Some.text.now c.loop-condition-test.true c.loop-condition.invariant (ap test (sym c.condition-item.is) ∙ (sym c.named_by_condition.ensures ∙ ap (λ o. option_copied o) c.in-Some.is)))))) in
    named_only c.args.self.now c.in-Some.text.now named

pub loop-condition-preserved : goal.loop-condition-preserved
loop-condition-preserved c =
    let test = λ (x : Condition). named_by_clause (clause_view x) in
    let one_more : suc c.loop-condition.condition-index ≡ c.loop-condition.condition-index + 1 = omega arith in
    ap (λ n. first_found test (take n c.deref-condition-items.result.now)) (sym one_more)
    ∙ found_more test c.deref-condition-items.result.now c.loop-condition.condition-index c.condition-item.result c.loop-condition-test.true c.loop-condition.invariant
    (ap test (sym c.condition-item.is) ∙ (sym c.named_by_condition.ensures ∙ ap (λ o. option_copied o) c.in-None.is))

pub returns-clause-named : goal.returns-clause-named
returns-clause-named c =
    let test = λ (x : Condition). named_by_clause (clause_view x) in
    sym (sym (ap (λ x. named_id x) c.self.view_is) ∙ (named_id-is c.self.inside.conditions.items ∙ (ap (λ xs. first_found test xs) (sym c.deref-condition-items.ensures.value) ∙ (ap (λ xs. first_found test xs) (sym (take_all c.loop-condition.condition-index c.deref-condition-items.result.now c.loop-condition-test.false)) ∙ c.loop-condition.invariant))))
