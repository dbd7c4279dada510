use Rattle.std.proofs.Common.{◌≡◌, ◌∷◌, [], ◌++◌, ◌+◌, suc, Ok, drop, get_or, refl, lit<, ap, sym, ◌∙◌, arith}
use Rattle.std.proofs.Math.Seq.{drop-cons}
use Rattle.std.proofs.lemmas.List.{append_assoc, drop_all}
use Rattle.value_model.specs.Val.{fields_of, vals_of}
use Rattle.ejson_value.specs.View.{view, views, entries}
use Rattle.ejson_value.proofs.Walks.{item_depth, field_depth}
use Rattle.program_steps.specs.declared.measuring.Extent.{Extent}
use Rattle.ejson_value.specs.Results.{made}
use Rattle.program_steps.specs.Measuring.{measuring, items_measuring, fields_measuring, field_behind}
use Rattle.program_steps.proofs.Extents.{behind, item_more, field_more, items_first, fields_first, all_behind}
use Rattle.program_steps.proofs.measuring.+measuring.Goals as goal

pub measure_items-measure_value-requires : goal.measure_items-measure_value-requires
measure_items-measure_value-requires t c =
    let less = item_depth c.as_slice-item-items.result.now c.loop-item.item-index c.item-item.result c.args.items.now c.item-item.is c.loop-item-test.true c.as_slice-item-items.ensures in
    (omega (arith, less, c.decreases), tt)

pub measure_items-loop-item-init : goal.measure_items-loop-item-init
measure_items-loop-item-init t c = (items_first c.args.params.now c.args.ids.now (vals_of (views c.as_slice-item-items.result.now)), omega arith, omega arith)

pub measure_items-loop-item-preserved : goal.measure_items-loop-item-preserved
measure_items-loop-item-preserved t c =
    let items = c.as_slice-item-items.result.now in
    let i = c.loop-item.item-index in
    let so_far = c.loop-item.so_far in
    let ps = c.args.params.now in
    let ids = c.args.ids.now in
    let more = items_measuring ps ids (vals_of (views (drop (suc i) items))) in
    let one_more : suc i ≡ i + 1 = omega arith in
    let step = ap (λ vs. made (behind so_far) (items_measuring ps ids (vals_of (views vs)))) (drop-cons items i c.item-item.result c.loop-item-test.true)
    ∙ (item_more so_far c.in_ok-extent.extent (measuring ps ids (view (get_or items i c.item-item.result))) more (ap (λ v. measuring ps ids (view v)) (sym c.item-item.is) ∙ c.in_ok-extent.ensures)
    ∙ (ap (λ (e : Extent). made (behind e) more) (sym c.with_item-so_far.ensures)
    ∙ ap (λ n. made (behind c.with_item-so_far.result) (items_measuring ps ids (vals_of (views (drop n items))))) one_more)) in
    (sym step ∙ c.loop-item.invariant.0, omega (arith, ap (λ (e : Extent). e.depth) c.with_item-so_far.ensures), omega (arith, ap (λ (e : Extent). e.size) c.with_item-so_far.ensures))

pub measure_items-returns : goal.measure_items-returns
measure_items-returns t c =
    let items = c.as_slice-item-items.result.now in
    let so_far = c.loop-item.so_far in
    let ps = c.args.params.now in
    let ids = c.args.ids.now in
    sym (ap (λ vs. items_measuring ps ids (vals_of vs)) c.as_slice-item-items.ensures)
    ∙ (sym c.loop-item.invariant.0
    ∙ (ap (λ vs. made (behind so_far) (items_measuring ps ids (vals_of (views vs)))) (drop_all c.loop-item.item-index items c.loop-item-test.false)
    ∙ ap (λ e. Ok e) (all_behind so_far c.loop-item.invariant.1 c.loop-item.invariant.2)))

pub measure_fields-measure_value-requires : goal.measure_fields-measure_value-requires
measure_fields-measure_value-requires t c =
    let done = c.loop-name.invariant.2.0 in
    let all = c.loop-name.invariant.2.1 ∙ ap (λ rest. done ++ rest) c.in-Some.ensures.steps in
    let less = field_depth c.into_iter-name-iterator.result done c.in-Some.name.now c.in-Some.value.now c.next.new.self c.args.fields.now all (ap entries c.into_iter-name-iterator.ensures.into_iter_gives ∙ c.iter-name-items.ensures.all) in
    (omega (arith, less, c.decreases), tt)

pub measure_fields-loop-name-init : goal.measure_fields-loop-name-init
measure_fields-loop-name-init t c =
    (tt, tt, ([], refl), fields_first c.args.params.now c.args.ids.now (fields_of (entries c.into_iter-name-iterator.result)), lit< tt, lit< tt)

pub measure_fields-loop-name-preserved : goal.measure_fields-loop-name-preserved
measure_fields-loop-name-preserved t c =
    let done = c.loop-name.invariant.2.0 in
    let name = c.in-Some.name.now in
    let value = c.in-Some.value.now in
    let so_far = c.loop-name.so_far in
    let ps = c.args.params.now in
    let ids = c.args.ids.now in
    let all = c.loop-name.invariant.2.1 ∙ ap (λ rest. done ++ rest) c.in-Some.ensures.steps in
    let more = fields_measuring ps ids (fields_of (entries c.next.new.self)) in
    let step = ap (λ it. made (behind so_far) (fields_measuring ps ids (fields_of (entries it)))) c.in-Some.ensures.steps
    ∙ (field_more so_far c.in_ok-extent.extent name (measuring ps ids (view value)) more c.in_ok-extent.ensures
    ∙ (ap (λ (n : Extent). made (behind (field_behind so_far n c.in_ok-extent.extent)) more) (sym c.in_ok-extent_of_text.ensures)
    ∙ ap (λ (e : Extent). made (behind e) more) (sym c.with_field-so_far.ensures))) in (
      tt,
      tt,
      (done ++ (name, value) ∷ [], all ∙ sym (append_assoc done ((name, value) ∷ []) c.next.new.self)),
      sym step ∙ c.loop-name.invariant.3,
      omega (arith, ap (λ (e : Extent). e.depth) c.with_field-so_far.ensures),
      omega (arith, ap (λ (e : Extent). e.size) c.with_field-so_far.ensures),
    )

pub measure_fields-returns : goal.measure_fields-returns
measure_fields-returns t c =
    let so_far = c.loop-name.so_far in
    let ps = c.args.params.now in
    let ids = c.args.ids.now in
    sym (ap (λ es. fields_measuring ps ids (fields_of es)) (ap entries c.into_iter-name-iterator.ensures.into_iter_gives ∙ c.iter-name-items.ensures.all))
    ∙ (sym c.loop-name.invariant.3
    ∙ (ap (λ it. made (behind so_far) (fields_measuring ps ids (fields_of (entries it)))) c.in-None.ensures.steps.0
    ∙ ap (λ e. Ok e) (all_behind so_far c.loop-name.invariant.4 c.loop-name.invariant.5)))
