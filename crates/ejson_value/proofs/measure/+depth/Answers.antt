use Rattle.std.proofs.Common.{◌∷◌, [], ◌++◌, ap, sym, ◌∙◌, arith}
use Rattle.std.proofs.lemmas.List.{append_assoc, drop_all}
use Rattle.value_model.specs.Val.{vals_of, fields_of}
use Rattle.value_model.specs.Depth.{vals_depth, fields_depth}
use Rattle.ejson_value.specs.View.{views, pairs, entries}
use Rattle.ejson_value.proofs.Walks.{item_depth, field_depth, member_depth}
use Rattle.ejson_value.proofs.measure.+depth.Goals as goal

pub table_depth-depth-requires : goal.table_depth-depth-requires
table_depth-depth-requires t c =
    let done = c.loop-value.invariant.2.0 in
    let all = c.loop-value.invariant.2.1 ∙ ap (λ rest. done ++ rest) c.in-Some.ensures.steps in
    let less = field_depth c.into_iter-value-iterator.result done c.in-Some.field-0-0.now c.in-Some.value.now c.next.new.self c.args.doc.now all (ap entries c.into_iter-value-iterator.ensures.into_iter_gives ∙ c.iter-value-items.ensures.all) in
    (omega (arith, less, c.decreases), tt)

pub table_depth-loop-value-preserved : goal.table_depth-loop-value-preserved
table_depth-loop-value-preserved t c =
    let done = c.loop-value.invariant.2.0 in
    let name = c.in-Some.field-0-0.now in
    let value = c.in-Some.value.now in
    let all = c.loop-value.invariant.2.1 ∙ ap (λ rest. done ++ rest) c.in-Some.ensures.steps in (
      tt,
      tt,
      (done ++ (name, value) ∷ [], all ∙ sym (append_assoc done ((name, value) ∷ []) c.next.new.self)),
      omega (arith, c.loop-value.invariant.3, ap (λ es. fields_depth (fields_of (entries es))) c.in-Some.ensures.steps, c.depth.ensures, c.max-deepest.ensures),
      omega (arith, c.loop-value.invariant.4, c.max-deepest.ensures),
    )

pub table_depth-returns : goal.table_depth-returns
table_depth-returns t c =
    omega (
      arith,
      c.loop-value.invariant.3,
      c.loop-value.invariant.4,
      ap (λ es. fields_depth (fields_of (entries es))) c.in-None.ensures.steps.0,
      ap (λ es. fields_depth (fields_of es)) (ap entries c.into_iter-value-iterator.ensures.into_iter_gives ∙ c.iter-value-items.ensures.all),
    )

pub members_depth-depth-requires : goal.members_depth-depth-requires
members_depth-depth-requires t c =
    let less = member_depth c.args.members.now c.loop-member.member-index c.member-item.result c.member-item.is c.loop-member-test.true in
    (omega (arith, less, c.decreases), tt)

pub members_depth-returns : goal.members_depth-returns
members_depth-returns t c =
    omega (
      arith,
      c.loop-member.invariant.0,
      c.loop-member.invariant.1,
      ap (λ ms. fields_depth (fields_of (entries (pairs ms)))) (drop_all c.loop-member.member-index c.args.members.now c.loop-member-test.false),
    )

pub items_depth-depth-requires : goal.items_depth-depth-requires
items_depth-depth-requires t c =
    let less = item_depth c.as_slice-item-items.result.now c.loop-item.item-index c.item-item.result c.args.items.now c.item-item.is c.loop-item-test.true c.as_slice-item-items.ensures in
    (omega (arith, less, c.decreases), tt)

pub items_depth-returns : goal.items_depth-returns
items_depth-returns t c =
    omega (
      arith,
      c.loop-item.invariant.0,
      c.loop-item.invariant.1,
      ap (λ vs. vals_depth (vals_of (views vs))) (drop_all c.loop-item.item-index c.as_slice-item-items.result.now c.loop-item-test.false),
      ap (λ vs. vals_depth (vals_of vs)) c.as_slice-item-items.ensures,
    )
