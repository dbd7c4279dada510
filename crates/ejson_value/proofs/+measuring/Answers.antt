use Rattle.std.proofs.Common.{◌∷◌, [], ◌++◌, ap, sym, ◌∙◌, arith}
use Rattle.std.proofs.lemmas.List.{append_assoc, drop_all}
use Rattle.value_model.specs.Val.{vals_of, fields_of}
use Rattle.value_model.specs.Depth.{fields_depth}
use Rattle.value_model.specs.Size.{vals_size, fields_size}
use Rattle.ejson_value.specs.View.{views, pairs, entries, held_fields, doc_fields}
use Rattle.ejson_value.proofs.Walks.{item_depth, field_depth, member_depth}
use Rattle.ejson_value.proofs.+measuring.Goals as goal

pub measure::items_size-size-requires : goal.measure::items_size-size-requires
measure::items_size-size-requires t c =
    let less = item_depth c.as_slice-item-items.result.now c.loop-item.item-index c.item-item.result c.args.items.now c.item-item.is c.loop-item-test.true c.as_slice-item-items.ensures in
    (omega (arith, less, c.decreases), tt)

pub measure::items_size-returns : goal.measure::items_size-returns
measure::items_size-returns t c =
    omega (
      arith,
      c.loop-item.invariant.0,
      c.loop-item.invariant.1,
      ap (λ vs. vals_size (vals_of (views vs))) (drop_all c.loop-item.item-index c.as_slice-item-items.result.now c.loop-item-test.false),
      ap (λ vs. vals_size (vals_of vs)) c.as_slice-item-items.ensures,
    )

pub measure::members_size-field_size-requires : goal.measure::members_size-field_size-requires
measure::members_size-field_size-requires t c =
    let less = member_depth c.args.members.now c.loop-member.member-index c.member-item.result c.member-item.is c.loop-member-test.true in
    (omega (arith, less, c.decreases), tt)

pub measure::members_size-returns : goal.measure::members_size-returns
measure::members_size-returns t c =
    omega (
      arith,
      c.loop-member.invariant.0,
      c.loop-member.invariant.1,
      ap (λ ms. fields_size (fields_of (entries (pairs ms)))) (drop_all c.loop-member.member-index c.args.members.now c.loop-member-test.false),
    )

pub members::Members::table_size-field_size-requires : goal.members::Members::table_size-field_size-requires
members::Members::table_size-field_size-requires t c =
    let done = c.loop-name.invariant.2.0 in
    let all = c.loop-name.invariant.2.1 ∙ ap (λ rest. done ++ rest) c.in-Some.ensures.steps in
    let less = field_depth c.into_iter-name-iterator.result done c.in-Some.name.now c.in-Some.value.now c.next.new.self (held_fields c.args.self.now) all (ap entries c.into_iter-name-iterator.ensures.into_iter_gives ∙ c.iter-name-items.ensures.all) in
    (omega (arith, less, c.decreases), tt)

pub members::Members::table_size-loop-name-preserved : goal.members::Members::table_size-loop-name-preserved
members::Members::table_size-loop-name-preserved t c =
    let done = c.loop-name.invariant.2.0 in
    let name = c.in-Some.name.now in
    let value = c.in-Some.value.now in
    let all = c.loop-name.invariant.2.1 ∙ ap (λ rest. done ++ rest) c.in-Some.ensures.steps in (
      tt,
      tt,
      (done ++ (name, value) ∷ [], all ∙ sym (append_assoc done ((name, value) ∷ []) c.next.new.self)),
      omega (arith, c.loop-name.invariant.3, ap (λ es. fields_size (fields_of (entries es))) c.in-Some.ensures.steps, c.field_size.ensures, c.saturating_add-total.ensures),
      omega (arith, c.loop-name.invariant.4, c.saturating_add-total.ensures),
    )

pub members::Members::table_size-returns : goal.members::Members::table_size-returns
members::Members::table_size-returns t c =
    omega (
      arith,
      c.loop-name.invariant.3,
      c.loop-name.invariant.4,
      ap (λ es. fields_size (fields_of (entries es))) c.in-None.ensures.steps.0,
      ap (λ es. fields_size (fields_of es)) (ap entries c.into_iter-name-iterator.ensures.into_iter_gives ∙ c.iter-name-items.ensures.all),
    )

pub members::Measured::bytes-counted-requires : goal.members::Measured::bytes-counted-requires
members::Measured::bytes-counted-requires t c = (omega (arith, ap (λ es. fields_depth (fields_of es)) c.self.view_is, c.decreases), tt)

pub value::Doc::bytes-bytes-requires : goal.value::Doc::bytes-bytes-requires
value::Doc::bytes-bytes-requires t c =
    let same = c.deref.ensures ∙ (ap (λ o. doc_fields o) (sym c.in-Some.is) ∙ c.self.view_is) in
    (omega (arith, ap (λ es. fields_depth (fields_of es)) same, c.decreases), tt)
