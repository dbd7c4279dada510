use Rattle.std.proofs.Common.{Some, None, option_map, ap, sym, ◌∙◌, arith}
use Rattle.std.specs.List.{list_any}
use Rattle.std.proofs.lemmas.List.Folds.{list_any_more, list_any_at}
use Rattle.std.proofs.lemmas.List.{take_all}
use Rattle.value_model.specs.Doc.{get}
use Rattle.ejson_value.specs.declared.value.Value.{Value}
use Rattle.ejson_value.specs.View.{view}
use Rattle.ejson_value.proofs.Branching.{through, from_object, through_object, from_elements, at_place, through_all, neither, second}
use Rattle.ejson_value.proofs.branches.+branches.Goals as goal

pub some_after-returns-in-Object : goal.some_after-returns-in-Object
some_after-returns-in-Object g t c = λ p a.
    c.some_from.ensures p a
    ∙ from_object p c.args.part.now c.args.more.now (option_map (λ v. view v.now) c.args.reached) c.args.from_list c.in-Object.fields (option_map (λ v. view v.now) c.get.result)
    (ap (λ o. option_map (λ v. view v.now) o) c.in-Some.is ∙ ap (λ v. Some (view v)) c.in-Object.is) (c.get.ensures ∙ ap (λ n. get c.in-Object.fields n) c.name.ensures)

pub some_after-returns-else-some_at_place : goal.some_after-returns-else-some_at_place
some_after-returns-else-some_at_place g t c = λ p a.
    second _ _ _ _ c.if-some_at_place.false (c.some_at_place.ensures p a) (c.some_in_elements.ensures p a)
    ∙ sym (from_elements p c.args.part.now c.args.more.now (option_map (λ v. view v.now) c.args.reached) c.args.from_list c.in-List.items
    (ap (λ o. option_map (λ v. view v.now) o) c.in-Some.is ∙ ap (λ v. Some (view v)) c.in-List.is))

pub some_at_place-returns-in-None : goal.some_at_place-returns-in-None
some_at_place-returns-in-None g t c = λ p a.
    at_place p c.args.part.now c.args.more.now c.args.items.now c.in-Some.place None (sym c.place.ensures ∙ c.in-Some.is) (sym (ap (λ o. option_map (λ v. view v.now) o) c.in-None.is) ∙ c.get.ensures)

pub some_at_place-returns-in-Some-get : goal.some_at_place-returns-in-Some-get
some_at_place-returns-in-Some-get g t c = λ p a.
    c.some_from.ensures p a
    ∙ at_place p c.args.part.now c.args.more.now c.args.items.now c.in-Some.place (Some (view c.in-Some-get.item.now)) (sym c.place.ensures ∙ c.in-Some.is) (sym (ap (λ o. option_map (λ v. view v.now) o) c.in-Some-get.is) ∙ c.get.ensures)

pub some_in_element-returns-in-Object : goal.some_in_element-returns-in-Object
some_in_element-returns-in-Object g t c = λ p a.
    c.some_from.ensures p a
    ∙ through_object p c.args.part.now c.args.more.now (view c.args.item.now) c.in-Object.fields (option_map (λ v. view v.now) c.get.result) (ap view c.in-Object.is) (c.get.ensures ∙ ap (λ n. get c.in-Object.fields n) c.name.ensures)

pub some_in_elements-returns-then-some_in_element : goal.some_in_elements-returns-then-some_in_element
some_in_elements-returns-then-some_in_element g t c = λ p a.
    let test = λ (v : Value). list_any (λ b. p b.0 b.1) (through c.args.part.now c.args.more.now (view v)) in
    sym (through_all p c.args.part.now c.args.more.now c.as_slice-item-items.result.now c.args.items.now c.as_slice-item-items.ensures
    ∙ list_any_at test c.as_slice-item-items.result.now c.loop-item.item-index c.item-item.result c.loop-item-test.true
    (ap test (sym c.item-item.is) ∙ (sym (c.some_in_element.ensures p a) ∙ c.if-some_in_element.true)))

pub some_in_elements-loop-item-preserved : goal.some_in_elements-loop-item-preserved
some_in_elements-loop-item-preserved g t c = λ p a.
    let test = λ (v : Value). list_any (λ b. p b.0 b.1) (through c.args.part.now c.args.more.now (view v)) in
    list_any_more test c.as_slice-item-items.result.now c.loop-item.item-index c.item-item.result c.loop-item-test.true
    ∙ neither _ _ (c.loop-item.invariant p a) (ap test (sym c.item-item.is) ∙ (sym (c.some_in_element.ensures p a) ∙ c.if-some_in_element.false))

pub some_in_elements-returns : goal.some_in_elements-returns
some_in_elements-returns g t c = λ p a.
    let test = λ (v : Value). list_any (λ b. p b.0 b.1) (through c.args.part.now c.args.more.now (view v)) in
    sym (through_all p c.args.part.now c.args.more.now c.as_slice-item-items.result.now c.args.items.now c.as_slice-item-items.ensures
    ∙ (ap (λ vs. list_any test vs) (sym (take_all c.loop-item.item-index c.as_slice-item-items.result.now (omega arith))) ∙ c.loop-item.invariant p a))
