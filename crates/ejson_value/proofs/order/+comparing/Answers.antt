use Rattle.std.proofs.Common.{◌∷◌, [], ◌++◌, ap, sym, ◌∙◌, arith}
use Rattle.std.proofs.lemmas.List.{append_assoc}
use Rattle.std.specs.Ordering.{ordering_then}
use Rattle.value_model.specs.Order.{text_cmp}
use Rattle.ejson_value.specs.View.{entries}
use Rattle.ejson_value.proofs.Walks.{item_depth, field_depth, tie_of, next_fields}
use Rattle.ejson_value.proofs.order.+comparing.Goals as goal

pub compare_docs-compare-requires : goal.compare_docs-compare-requires
compare_docs-compare-requires t c =
    let done = c.loop-name.invariant.2.0 in
    let all = c.loop-name.invariant.2.1 ∙ ap (λ rest. done ++ rest) c.in-Some.ensures.steps in
    let less = field_depth c.into_iter-name-iterator.result done c.in-Some.name.now c.in-Some.value.now c.next.new.self c.args.a.now all (ap entries c.into_iter-name-iterator.ensures.into_iter_gives ∙ c.iter-name-items.ensures.all) in
    (omega (arith, less, c.decreases), tt)

pub compare_docs-loop-name-preserved : goal.compare_docs-loop-name-preserved
compare_docs-loop-name-preserved t c =
    let done = c.loop-name.invariant.2.0 in
    let name = c.in-Some.name.now in
    let value = c.in-Some.value.now in
    let all = c.loop-name.invariant.2.1 ∙ ap (λ rest. done ++ rest) c.in-Some.ensures.steps in
    let tie = tie_of c.then-order.result (sym c.is_ne.ensures ∙ c.if-is_ne.false) in
    let both = ap (λ o. ordering_then o c.compare.result) (sym c.cmp.ensures) ∙ (sym c.then-order.ensures ∙ tie) in
    let tied = ap (λ o. ordering_then (text_cmp name c.in-Some-next.other_name.now) o) (sym c.compare.ensures) ∙ both in (
      tt,
      tt,
      (done ++ (name, value) ∷ [], all ∙ sym (append_assoc done ((name, value) ∷ []) c.next.new.self)),
      next_fields c.loop-name.name-iterator c.next.new.self c.loop-name.others c.next-in-loop-name.new.self name c.in-Some-next.other_name.now value c.in-Some-next.other.now
          c.in-Some.ensures.steps c.in-Some-next.ensures.steps tied
          ∙ c.loop-name.invariant.3,
    )

pub compare_lists-compare-order-requires : goal.compare_lists-compare-order-requires
compare_lists-compare-order-requires t c =
    let less = item_depth c.as_slice-item-items.result.now c.loop-item.item-index c.item-item.result c.args.a.now c.item-item.is c.loop-item-test.true c.as_slice-item-items.ensures in
    (omega (arith, less, c.decreases), tt)
