use Rattle.std.proofs.Common.{◌<◌, ◌≤◌, length, arith, List, Option, option_map, Ok, Err, slice_get, slice_set, ap, sym, ◌∙◌}
use Rattle.std.proofs.lemmas.Option.{slice_get_past}
use Rattle.std.proofs.lemmas.Result.{err_from_is_err_and}
use Rattle.value_model.specs.Val.{Val, Entries, null}
use Rattle.value_model.specs.Branches.{position_of}
use Rattle.value_model.specs.Doc.{get, remove}
use Rattle.ejson_value.specs.declared.value.Value.{Value}
use Rattle.ejson_value.specs.View.{view}
use Rattle.ejson_value.specs.Results.{made}
use Rattle.modifier_apply.specs.View.{edit_view}
use Rattle.modifier_apply.specs.Modified.{with_field, field_changed, element_changed, changed_at}
use Rattle.modifier_apply.proofs.Walks.{left_put, view_or, element_put, element_behind, passed_on, object_changed, list_changed}
use Rattle.modifier_apply.proofs.applying.+walking.Goals as goal

pub changed_at_place-returns-in_ok-replace : goal.changed_at_place-returns-in_ok-replace
changed_at_place-returns-in_ok-replace t c =
    let e = edit_view c.args.operator.now in
    let rest = c.args.rest.now in
    let items = c.args.items in
    let place = c.args.place in
    let left = c.in_ok-left.left in
    let within : place < length items = omega (arith, c.len.ensures, c.if-place-len.true) in
    element_put items place (changed_at e rest (slice_get items place)) (option_map view left) within (ap (λ o. changed_at e rest o) (sym c.in_ok-there.ensures.value) ∙ c.in_ok-left.ensures)
    ∙ ap (λ vs. Ok vs) (sym (c.in_ok-replace.ensures.replaced
    ∙ (ap (λ vs. slice_set vs place (view c.unwrap_or.result)) c.in_ok-there.ensures.replaced
    ∙ ap (λ v. slice_set (slice_set items place null) place v) (ap view c.unwrap_or.ensures ∙ view_or left))))

pub changed_at_place-returns-in_ok-put_behind : goal.changed_at_place-returns-in_ok-put_behind
changed_at_place-returns-in_ok-put_behind t c =
    let e = edit_view c.args.operator.now in
    let rest = c.args.rest.now in
    let items = c.args.items in
    let place = c.args.place in
    let past : length items ≤ place = omega (arith, c.len.ensures, c.if-place-len.false) in
    element_behind items place (changed_at e rest (slice_get items place)) (option_map view c.in_ok-left-2.left) past (ap (λ o. changed_at e rest o) (slice_get_past items place past) ∙ c.in_ok-left-2.ensures)
    ∙ ap (λ vs. Ok vs) (sym c.in_ok-put_behind.ensures)

pub changed_inside-returns-in_ok-fields-in-Object : goal.changed_inside-returns-in_ok-fields-in-Object
changed_inside-returns-in_ok-fields-in-Object t c =
    object_changed (edit_view c.args.operator.now) c.args.part.now c.args.rest.now c.args.value c.in-Object.fields (Ok c.in_ok-fields-in-Object.fields) c.in-Object.is c.in_ok-fields-in-Object.ensures

pub changed_inside-returns-in_ok-items-in-List : goal.changed_inside-returns-in_ok-items-in-List
changed_inside-returns-in_ok-items-in-List t c =
    list_changed (edit_view c.args.operator.now) c.args.part.now c.args.rest.now c.args.value c.in-List.items (Ok c.in_ok-items-in-List.items) c.in-List.is c.in_ok-items-in-List.ensures

pub changed_inside-returns-in_err-fields-in-Object : goal.changed_inside-returns-in_err-fields-in-Object
changed_inside-returns-in_err-fields-in-Object t c =
    let p = err_from_is_err_and c.from_residual.result c.from_residual.ensures.1 in
    let e = edit_view c.args.operator.now in
    let rest = c.args.rest.now in
    rw (p.1, p.2) (passed_on (λ (es : Entries). es) (λ (o : Option Value). option_map view o) c.in_err-fields-in-Object.field-0.0 (field_changed (λ there. changed_at e rest there) c.in-Object.fields c.args.part.now) _ c.in_err-fields-in-Object.ensures
    (λ x refused. object_changed e c.args.part.now rest c.args.value c.in-Object.fields (Err x) c.in-Object.is refused))

pub changed_inside-returns-in_err-items-in-List : goal.changed_inside-returns-in_err-items-in-List
changed_inside-returns-in_err-items-in-List t c =
    let p = err_from_is_err_and c.from_residual-in_err-items-in-List.result c.from_residual-in_err-items-in-List.ensures.1 in
    let e = edit_view c.args.operator.now in
    let rest = c.args.rest.now in
    rw (p.1, p.2) (passed_on (λ (vs : List Val). vs) (λ (o : Option Value). option_map view o) c.in_err-items-in-List.field-0.0 (element_changed e (λ there. changed_at e rest there) c.in-List.items (position_of c.args.part.now)) _ c.in_err-items-in-List.ensures
    (λ x refused. list_changed e c.args.part.now rest c.args.value c.in-List.items (Err x) c.in-List.is refused))

pub field_changed-returns : goal.field_changed-returns
field_changed-returns t c =
    let e = edit_view c.args.operator.now in
    let rest = c.args.rest.now in
    let fields = c.args.fields in
    let part = c.args.part.now in
    ap (λ o. made (λ left. with_field fields part left) o) (ap (λ o. changed_at e rest o) (ap (λ n. get fields n) (sym c.name.ensures) ∙ sym c.in_ok-there.ensures.value) ∙ c.in_ok-left.ensures)
    ∙ ap (λ es. Ok es) (left_put fields c.remove.new.self c.in_ok-with_left.field-0 c.name.result.now part c.in_ok-left.left c.known.ensures.names c.in_ok-there.ensures.removed c.name.ensures c.in_ok-with_left.ensures)
