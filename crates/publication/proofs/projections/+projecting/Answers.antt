use Rattle.std.proofs.Common.{◌∷◌, [], ◌++◌, ap, sym, subst, refl, ◌∙◌, arith}
use Rattle.std.proofs.lemmas.List.{append_assoc, append-nil, drop_all}
use Rattle.std.specs.Map.{keys_of}
use Rattle.std.specs.List.Sorted.{IsStrictlySortedBy}
use Rattle.value_model.specs.Val.{fields_of, vals_of}
use Rattle.value_model.specs.Order.{text_cmp}
use Rattle.ejson_value.specs.View.{views, entries}
use Rattle.ejson_value.proofs.Walks.{item_depth, field_depth}
use Rattle.publication.specs.Parts.{paths_in, below, put_some}
use Rattle.publication.specs.Projected.{elements_projected, fields_projected}
use Rattle.publication.proofs.Walks.{elements_behind, elements_behind-none, left_of, fields_left, next_field}
use Rattle.publication.proofs.projections.+projecting.Goals as goal

pub project_items-project_value-requires : goal.project_items-project_value-requires
project_items-project_value-requires t c =
    let less = item_depth c.as_slice-item-items.result.now c.loop-item.item-index c.item-item.result c.args.items.now c.item-item.is c.loop-item-test.true c.as_slice-item-items.ensures in
    (omega (arith, less, c.decreases), c.requires)

pub project_items-returns : goal.project_items-returns
project_items-returns t c =
    let inc = c.args.including in
    let ps = below c.args.level (paths_in c.args.paths.now) in
    let items = c.as_slice-item-items.result.now in
    let all = sym (ap (λ vs. elements_behind inc ps c.loop-item.left (vals_of (views vs))) (drop_all c.loop-item.item-index items c.loop-item-test.false)) ∙ c.loop-item.invariant in
    ap vals_of all ∙ (elements_behind-none inc ps (vals_of (views items)) ∙ ap (λ vs. elements_projected inc ps (vals_of vs)) c.as_slice-item-items.ensures)

pub project_fields-project_field-requires : goal.project_fields-project_field-requires
project_fields-project_field-requires t c =
    let done = c.loop-name.invariant.2.0 in
    let all = c.loop-name.invariant.2.1 ∙ ap (λ rest. done ++ rest) c.in-Some.ensures.steps in
    let less = field_depth c.into_iter-name-iterator.result done c.in-Some.name.now c.in-Some.value.now c.next.new.self c.args.fields.now all (ap entries c.into_iter-name-iterator.ensures.into_iter_gives ∙ c.iter-name-items.ensures.all) in
    (omega (arith, less, c.decreases), c.requires)

pub project_fields-loop-name-preserved : goal.project_fields-loop-name-preserved
project_fields-loop-name-preserved t c =
    let done = c.loop-name.invariant.2.0 in
    let name = c.in-Some.name.now in
    let value = c.in-Some.value.now in
    let rest = c.next.new.self in
    let left = left_of c.args.including (below c.args.level (paths_in c.args.paths.now)) in
    let all = c.loop-name.invariant.2.1 ∙ ap (λ more. done ++ more) c.in-Some.ensures.steps in
    let sorted = subst (λ es. IsStrictlySortedBy text_cmp (keys_of es)) (sym c.into_iter-name-iterator.ensures.into_iter_gives ∙ all) c.iter-name-items.ensures.ordered in (
      tt,
      tt,
      (
        done ++ (name, value) ∷ [],
        all ∙ sym (append_assoc done ((name, value) ∷ []) rest),
        c.in_ok-put_some.ensures
            ∙ (ap (λ w. put_some c.loop-name.left name w) c.in_ok-value.ensures
            ∙ (ap (λ es. put_some es name (left name value)) c.loop-name.invariant.2.2 ∙ next_field left done name value rest (left name value) sorted refl)),
      ),
    )

pub project_fields-returns : goal.project_fields-returns
project_fields-returns t c =
    let done = c.loop-name.invariant.2.0 in
    let ps = below c.args.level (paths_in c.args.paths.now) in
    let whole = sym (c.loop-name.invariant.2.1 ∙ (ap (λ rest. done ++ rest) c.in-None.ensures.steps.0 ∙ append-nil done)) in
    ap fields_of c.loop-name.invariant.2.2
    ∙ (fields_left c.args.including ps done
    ∙ ap (λ es. fields_projected c.args.including ps (fields_of es)) (ap entries (whole ∙ c.into_iter-name-iterator.ensures.into_iter_gives) ∙ c.iter-name-items.ensures.all))
