use Rattle.std.proofs.Common.{map, ap, ◌∙◌}
use Rattle.selector_match.specs.Query.{query_of, predicates_of}
use Rattle.selector_match.specs.View.{clause_view, predicate_view}
use Rattle.selector_match.proofs.Loops.{one_made, all_made}
use Rattle.selector_match.proofs.+copying.Goals as goal

pub copying::copy_operators-loop-operator-preserved : goal.copying::copy_operators-loop-operator-preserved
copying::copy_operators-loop-operator-preserved t c =
    one_made predicate_view predicate_view c.deref-operator-items.result.now c.loop-operator.copies.items c.loop-operator.operator-index c.push.new.self.items c.operator-item.result c.in_ok-copied.copied
    c.loop-operator-test.true c.operator-item.is c.in_ok-push.ensures.items c.in_ok-copied.ensures c.loop-operator.invariant

pub selector::Selector::copy-loop-condition-preserved : goal.selector::Selector::copy-loop-condition-preserved
selector::Selector::copy-loop-condition-preserved t c =
    one_made clause_view clause_view c.deref-condition-items.result.now c.loop-condition.copies.items c.loop-condition.condition-index c.push.new.self.items c.condition-item.result c.in_ok-copied.copied
    c.loop-condition-test.true c.condition-item.is c.in_ok-push.ensures.items c.in_ok-copied.ensures c.loop-condition.invariant

pub copying::copy_operators-returns : goal.copying::copy_operators-returns
copying::copy_operators-returns t c =
    ap predicates_of (all_made predicate_view predicate_view c.deref-operator-items.result.now c.loop-operator.copies.items c.loop-operator.operator-index c.loop-operator-test.false c.loop-operator.invariant ∙ ap (λ ps. map predicate_view ps) c.deref-operator-items.ensures.value) ∙ c.operators.view_is

pub selector::Selector::copy-returns : goal.selector::Selector::copy-returns
selector::Selector::copy-returns t c =
    ap query_of (all_made clause_view clause_view c.deref-condition-items.result.now c.loop-condition.copies.items c.loop-condition.condition-index c.loop-condition-test.false c.loop-condition.invariant ∙ ap (λ ps. map clause_view ps) c.deref-condition-items.ensures.value) ∙ c.self.view_is
