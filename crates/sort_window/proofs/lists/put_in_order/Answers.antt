use Rattle.std.proofs.Common.{if◌then◌else◌, ap, sym, subst, ◌∙◌}
use Rattle.std.specs.Prelude.{count_by}
use Rattle.std.specs.List.{insert}
use Rattle.sort_window.specs.Inside.{stands_before, AreInOrder}
use Rattle.sort_window.proofs.Placed.{put_sorted}
use Rattle.sort_window.proofs.lists.put_in_order.Goals as goal

pub returns-clause-sorted : goal.returns-clause-sorted
returns-clause-sorted c =
    let sort = c.args.sort.now in
    let rows = c.args.rows.now.items in
    let held = c.args.held in
    let place = c.place-place.ensures.value
    ∙ ap (λ k. count_by (stands_before sort k c.whole.result.now) c.as_slice.result.now) c.id.ensures
    ∙ ap (λ k. count_by (stands_before sort held.0 k) c.as_slice.result.now) c.whole.ensures
    ∙ ap (count_by (stands_before sort held.0 held.1.whole)) c.as_slice.ensures.value in
    let now = c.insert.ensures.items ∙ ap (λ b. if b then insert rows c.place-place.result held else rows) (c.insert.ensures.succeeds c.requires.room) in
    subst (AreInOrder sort) (sym now) (put_sorted sort rows held c.place-place.result c.requires.sorted c.requires.new place)
