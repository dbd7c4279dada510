use Rattle.std.proofs.Common.{ap, ◌∙◌, arith}
use Rattle.std.specs.Prelude.{count_by}
use Rattle.std.specs.List.{remove}
use Rattle.ejson_value.specs.Key.{name_order}
use Rattle.sort_window.specs.Inside.{has_id_below}
use Rattle.sort_window.proofs.ById.{remove_is, place_within}
use Rattle.sort_window.proofs.lists.take_by_id.Goals as goal

pub remove-requires : goal.remove-requires
remove-requires c =
    let held = c.args.held.now in
    let place = c.place_of_id-place.ensures.value ∙ ap (λ k. count_by (has_id_below k) c.as_slice.result.now) c.id.ensures ∙ ap (count_by (has_id_below held.0)) c.as_slice.ensures.value in
    omega (arith, place, place_within name_order held.0 c.args.rows.now.items held.1 c.requires.sorted c.requires.there)

pub returns-clause-value : goal.returns-clause-value
returns-clause-value c =
    let rows = c.args.rows.now.items in
    let held = c.args.held.now in
    let place = c.place_of_id-place.ensures.value ∙ ap (λ k. count_by (has_id_below k) c.as_slice.result.now) c.id.ensures ∙ ap (count_by (has_id_below held.0)) c.as_slice.ensures.value in
    c.remove.ensures.items ∙ ap (remove rows) place ∙ remove_is name_order held.0 rows held.1 c.requires.sorted c.requires.there
