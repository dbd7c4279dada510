use Rattle.std.proofs.Common.{if◌then◌else◌, ap, ◌∙◌}
use Rattle.std.specs.Prelude.{count_by}
use Rattle.std.specs.List.{insert}
use Rattle.ejson_value.specs.Key.{name_order}
use Rattle.sort_window.specs.Inside.{has_id_below}
use Rattle.sort_window.proofs.ById.{insert_is}
use Rattle.sort_window.proofs.lists.put_by_id.Goals as goal

pub returns-clause-value : goal.returns-clause-value
returns-clause-value c =
    let rows = c.args.rows.now.items in
    let held = c.args.held in
    let place = c.place_of_id-place.ensures.value ∙ ap (λ k. count_by (has_id_below k) c.as_slice.result.now) c.id.ensures ∙ ap (count_by (has_id_below held.0)) c.as_slice.ensures.value in
    c.insert.ensures.items
    ∙ ap (λ b. if b then insert rows c.place_of_id-place.result held else rows) (c.insert.ensures.succeeds c.requires.room)
    ∙ ap (λ n. insert rows n held) place
    ∙ insert_is name_order held.0 rows held.1 c.requires.sorted c.requires.new
