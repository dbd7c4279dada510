use Rattle.std.proofs.Common.{◌||◌, true, false, List, [], ◌∷◌, Some, None, option_map, take, ap, sym, ◌∙◌}
use Rattle.std.specs.List.{list_any, flat_map}
use Rattle.std.specs.Option.{option_map_or}
use Rattle.std.proofs.lemmas.List.{take_all}
use Rattle.value_model.specs.Val.{Val, vals_of}
use Rattle.value_model.specs.Doc.{get}
use Rattle.value_model.specs.Branches.{branches, element_at}
use Rattle.ejson_value.specs.declared.value.Value.{Value}
use Rattle.ejson_value.specs.View.{view, views}
use Rattle.ejson_value.proofs.Branching.{through, from_object, through_object, from_elements, at_place, through_all}
use Rattle.selector_match.specs.Operands.{met_at, met}
use Rattle.selector_match.proofs.Marks.{marked_both, marked_as, unmarked}
use Rattle.selector_match.proofs.marking.+marking.Goals as goal

pub mark_after-returns-in-Object : goal.mark_after-returns-in-Object
mark_after-returns-in-Object t c =
    let reached = option_map (λ v. view v.now) c.args.reached in
    let found = option_map (λ v. view v.now) c.get.result in
    marked_as (views c.args.rising.now) (λ v. met v (branches c.args.more.now found false)) (λ v. met v (branches (c.args.part.now ∷ c.args.more.now) reached c.args.from_list)) c.args.marks.now c.mark_from.new.marks
    (λ v. from_object (met_at v) c.args.part.now c.args.more.now reached c.args.from_list c.in-Object.fields found
    (ap (λ o. option_map (λ v. view v.now) o) c.in-Some.is ∙ ap (λ v. Some (view v)) c.in-Object.is) (c.get.ensures ∙ ap (λ n. get c.in-Object.fields n) c.name.ensures))
    c.mark_from.ensures

pub mark_after-returns-in-List : goal.mark_after-returns-in-List
mark_after-returns-in-List t c =
    let reached = option_map (λ v. view v.now) c.args.reached in
    let vs = c.in-List.items in
    let part = c.args.part.now in
    let more = c.args.more.now in
    let here = λ (v : Val). met v (option_map_or (λ w. branches more (Some w) true) (element_at (vals_of vs) part) []) in
    let inside = λ (v : Val). met v (flat_map (through part more) vs) in
    marked_as (views c.args.rising.now) (λ v. here v || inside v) (λ v. met v (branches (part ∷ more) reached c.args.from_list)) c.args.marks.now c.mark_in_elements.new.marks
    (λ v. sym (from_elements (met_at v) part more reached c.args.from_list vs (ap (λ o. option_map (λ v. view v.now) o) c.in-Some.is ∙ ap (λ v. Some (view v)) c.in-List.is)))
    (marked_both (views c.args.rising.now) here inside c.args.marks.now c.mark_at_place.new.marks c.mark_in_elements.new.marks c.mark_at_place.ensures c.mark_in_elements.ensures)

pub mark_in_element-returns-in-Object : goal.mark_in_element-returns-in-Object
mark_in_element-returns-in-Object t c =
    let found = option_map (λ v. view v.now) c.get.result in
    marked_as (views c.args.rising.now) (λ v. met v (branches c.args.more.now found false)) (λ v. met v (through c.args.part.now c.args.more.now (view c.args.item.now))) c.args.marks.now c.mark_from.new.marks
    (λ v. through_object (met_at v) c.args.part.now c.args.more.now (view c.args.item.now) c.in-Object.fields found (ap view c.in-Object.is) (c.get.ensures ∙ ap (λ n. get c.in-Object.fields n) c.name.ensures))
    c.mark_from.ensures

pub mark_at_place-returns-in-None : goal.mark_at_place-returns-in-None
mark_at_place-returns-in-None t c =
    let vs = c.args.items.now in
    let more = c.args.more.now in
    let here = λ (v : Val). met v (option_map_or (λ w. branches more (Some w) true) (element_at (vals_of vs) c.args.part.now) []) in
    unmarked (views c.args.rising.now) here c.args.marks.now
    (λ k h. sym (at_place (met_at _) c.args.part.now more vs c.in-Some.place None (sym c.place.ensures ∙ c.in-Some.is) (sym (ap (λ o. option_map (λ v. view v.now) o) c.in-None.is) ∙ c.get.ensures)))

pub mark_at_place-returns-in-Some-get : goal.mark_at_place-returns-in-Some-get
mark_at_place-returns-in-Some-get t c =
    let vs = c.args.items.now in
    let more = c.args.more.now in
    let item = view c.in-Some-get.item.now in
    marked_as (views c.args.rising.now) (λ v. met v (branches more (Some item) true)) (λ v. met v (option_map_or (λ w. branches more (Some w) true) (element_at (vals_of vs) c.args.part.now) [])) c.args.marks.now c.mark_from.new.marks
    (λ v. at_place (met_at v) c.args.part.now more vs c.in-Some.place (Some item) (sym c.place.ensures ∙ c.in-Some.is) (sym (ap (λ o. option_map (λ v. view v.now) o) c.in-Some-get.is) ∙ c.get.ensures))
    c.mark_from.ensures

pub mark_in_elements-returns : goal.mark_in_elements-returns
mark_in_elements-returns t c =
    let part = c.args.part.now in
    let more = c.args.more.now in
    let items = c.as_slice-item-items.result.now in
    let at = λ (v : Val) (x : Value). met v (through part more (view x)) in
    marked_as (views c.args.rising.now) (λ v. list_any (at v) (take c.loop-item.item-index items)) (λ v. met v (flat_map (through part more) c.args.items.now)) c.args.marks.now c.loop-item.marks
    (λ v. ap (λ (xs : List Value). list_any (at v) xs) (take_all c.loop-item.item-index items c.loop-item-test.false) ∙ sym (through_all (met_at v) part more items c.args.items.now c.as_slice-item-items.ensures))
    c.loop-item.invariant
