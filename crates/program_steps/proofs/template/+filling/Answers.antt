use Rattle.std.proofs.Common.{◌≡◌, ℕ, ◌∷◌, [], ◌++◌, ◌+◌, suc, Ok, List, drop, get_or, ap, sym, subst, ◌∙◌, arith}
use Rattle.std.proofs.Math.Seq.{drop-cons}
use Rattle.std.proofs.lemmas.List.{append_assoc, map-append, drop_all}
use Rattle.std.specs.Map.{keys_of}
use Rattle.std.specs.List.Sorted.{IsStrictlySortedBy}
use Rattle.value_model.specs.Val.{Val, Entries, val, fields_of, vals_of}
use Rattle.value_model.specs.Order.{text_cmp}
use Rattle.value_model.specs.Doc.{put}
use Rattle.ejson_value.specs.declared.value.Value.{Value}
use Rattle.ejson_value.specs.View.{view, views, entries}
use Rattle.ejson_value.proofs.Walks.{item_depth, field_depth}
use Rattle.ejson_value.specs.Results.{made, after}
use Rattle.ejson_value.specs.ResultLaws.{made_none, made_more}
use Rattle.program_steps.specs.Template.{filling, items_filling, fields_filling}
use Rattle.program_steps.proofs.Front.{after-vals, field_before, field_more, after-fields, put_behind}
use Rattle.program_steps.proofs.template.+filling.Goals as goal

pub fill_items-fill_value-requires : goal.fill_items-fill_value-requires
fill_items-fill_value-requires t c =
    let less = item_depth c.as_slice-item-items.result.now c.loop-item.item-index c.item-item.result c.args.items.now c.item-item.is c.loop-item-test.true c.as_slice-item-items.ensures in
    (omega (arith, less, c.decreases), tt)

pub fill_items-loop-item-init : goal.fill_items-loop-item-init
fill_items-loop-item-init t c =
    let all = items_filling c.args.params.now c.args.ids.now (vals_of (views c.as_slice-item-items.result.now)) in
    made_none val all ∙ ap (λ (vs : List Val). made (λ q. after val vs q) all) (sym c.new-filled.ensures)

pub fill_items-loop-item-preserved : goal.fill_items-loop-item-preserved
fill_items-loop-item-preserved t c =
    let items = c.as_slice-item-items.result.now in
    let i = c.loop-item.item-index in
    let so_far = c.loop-item.filled in
    let ps = c.args.params.now in
    let ids = c.args.ids.now in
    let more = items_filling ps ids (vals_of (views (drop (suc i) items))) in
    let one_more : suc i ≡ i + 1 = omega arith in
    c.loop-item.invariant
    ∙ (ap (λ vs. made (λ q. after val so_far q) (items_filling ps ids (vals_of (views vs)))) (drop-cons items i c.item-item.result c.loop-item-test.true)
    ∙ (made_more val so_far (view c.in_ok-value.value) (filling ps ids (view (get_or items i c.item-item.result))) more (ap (λ v. filling ps ids (view v)) (sym c.item-item.is) ∙ c.in_ok-value.ensures)
    ∙ (ap (λ (vs : List Val). made (λ q. after val vs q) more) (sym c.in_ok-push.ensures.ok)
    ∙ ap (λ n. made (λ q. after val c.push.new.self q) (items_filling ps ids (vals_of (views (drop n items))))) one_more)))

pub fill_items-returns : goal.fill_items-returns
fill_items-returns t c =
    let items = c.as_slice-item-items.result.now in
    let so_far = c.loop-item.filled in
    let ps = c.args.params.now in
    let ids = c.args.ids.now in
    sym (ap (λ vs. items_filling ps ids (vals_of vs)) c.as_slice-item-items.ensures)
    ∙ (c.loop-item.invariant
    ∙ (ap (λ vs. made (λ q. after val so_far q) (items_filling ps ids (vals_of (views vs)))) (drop_all c.loop-item.item-index items c.loop-item-test.false)
    ∙ ap (λ q. Ok q) (after-vals so_far)))

pub fill_fields-fill_value-requires : goal.fill_fields-fill_value-requires
fill_fields-fill_value-requires t c =
    let done = c.loop-name.invariant.2.0 in
    let all = c.loop-name.invariant.2.1 ∙ ap (λ rest. done ++ rest) c.in-Some.ensures.steps in
    let less = field_depth c.into_iter-name-iterator.result done c.in-Some.name.now c.in-Some.value.now c.next.new.self c.args.fields.now all (ap entries c.into_iter-name-iterator.ensures.into_iter_gives ∙ c.iter-name-items.ensures.all) in
    (omega (arith, less, c.decreases), tt)

pub fill_fields-loop-name-preserved : goal.fill_fields-loop-name-preserved
fill_fields-loop-name-preserved t c =
    let done = c.loop-name.invariant.2.0 in
    let name = c.in-Some.name.now in
    let value = c.in-Some.value.now in
    let so_far = c.loop-name.filled in
    let new = view c.in_ok-value.value in
    let ps = c.args.params.now in
    let ids = c.args.ids.now in
    let all = c.loop-name.invariant.2.1 ∙ ap (λ rest. done ++ rest) c.in-Some.ensures.steps in
    let sorted = subst (λ es. IsStrictlySortedBy text_cmp (keys_of es)) (sym c.into_iter-name-iterator.ensures.into_iter_gives) c.iter-name-items.ensures.ordered in
    let now = c.in_ok-put.ensures.ok ∙ (ap (λ n. put so_far n new) c.in_ok-copy.ensures ∙ put_behind c.into_iter-name-iterator.result done name value c.next.new.self so_far new all sorted c.loop-name.invariant.2.2) in
    let more = fields_filling ps ids (fields_of (entries c.next.new.self)) in (
      tt,
      tt,
      (
        done ++ (name, value) ∷ [],
        all ∙ sym (append_assoc done ((name, value) ∷ []) c.next.new.self),
        ap keys_of now ∙ (map-append (λ (e : List ℕ × Val). e.0) so_far ((name, new) ∷ []) ∙ (ap (λ ks. ks ++ name ∷ []) c.loop-name.invariant.2.2 ∙ sym (map-append (λ (e : List ℕ × Value). e.0) done ((name, value) ∷ [])))),
      ),
      c.loop-name.invariant.3
          ∙ (ap (λ it. made (λ q. after field_before so_far q) (fields_filling ps ids (fields_of (entries it)))) c.in-Some.ensures.steps
          ∙ (field_more so_far name new (filling ps ids (view value)) more c.in_ok-value.ensures
          ∙ ap (λ (es : Entries). made (λ q. after field_before es q) more) (sym now))),
    )

pub fill_fields-returns : goal.fill_fields-returns
fill_fields-returns t c =
    let so_far = c.loop-name.filled in
    let ps = c.args.params.now in
    let ids = c.args.ids.now in
    sym (ap (λ es. fields_filling ps ids (fields_of es)) (ap entries c.into_iter-name-iterator.ensures.into_iter_gives ∙ c.iter-name-items.ensures.all))
    ∙ (c.loop-name.invariant.3
    ∙ (ap (λ it. made (λ q. after field_before so_far q) (fields_filling ps ids (fields_of (entries it)))) c.in-None.ensures.steps.0
    ∙ ap (λ q. Ok q) (after-fields so_far)))
