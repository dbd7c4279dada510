use Rattle.std.proofs.Common.{ap, sym, subst, ◌∙◌, arith}
use Rattle.std.specs.Prelude.{count_by}
use Rattle.std.specs.List.{remove}
use Rattle.sort_window.specs.Inside.{stands_before, AreInOrder, HasOneMore}
use Rattle.sort_window.proofs.Placed.{row_place, take_sorted, count_removed}
use Rattle.sort_window.proofs.lists.take_in_order.Goals as goal

pub remove-requires : goal.remove-requires
remove-requires c =
    let sort = c.args.sort.now in
    let held = c.args.held.now in
    let place = c.place-place.ensures.value
    ∙ ap (λ k. count_by (stands_before sort k c.whole.result.now) c.as_slice.result.now) c.id.ensures
    ∙ ap (λ k. count_by (stands_before sort held.0 k) c.as_slice.result.now) c.whole.ensures
    ∙ ap (count_by (stands_before sort held.0 held.1.whole)) c.as_slice.ensures.value in
    let here = (row_place sort c.args.rows.now.items held c.requires.sorted c.requires.there).0 in
    omega (arith, place, here)

pub returns-clause-sorted : goal.returns-clause-sorted
returns-clause-sorted c =
    let sort = c.args.sort.now in
    let rows = c.args.rows.now.items in
    let held = c.args.held.now in
    let place = c.place-place.ensures.value
    ∙ ap (λ k. count_by (stands_before sort k c.whole.result.now) c.as_slice.result.now) c.id.ensures
    ∙ ap (λ k. count_by (stands_before sort held.0 k) c.as_slice.result.now) c.whole.ensures
    ∙ ap (count_by (stands_before sort held.0 held.1.whole)) c.as_slice.ensures.value in
    let here = row_place sort rows held c.requires.sorted c.requires.there in
    subst (AreInOrder sort) (sym (c.remove.ensures.items ∙ ap (remove rows) place)) (take_sorted sort rows (count_by (stands_before sort held.0 held.1.whole) rows) c.requires.sorted here.0)

pub returns-clause-less : goal.returns-clause-less
returns-clause-less c =
    let sort = c.args.sort.now in
    let rows = c.args.rows.now.items in
    let held = c.args.held.now in
    let place = c.place-place.ensures.value
    ∙ ap (λ k. count_by (stands_before sort k c.whole.result.now) c.as_slice.result.now) c.id.ensures
    ∙ ap (λ k. count_by (stands_before sort held.0 k) c.as_slice.result.now) c.whole.ensures
    ∙ ap (count_by (stands_before sort held.0 held.1.whole)) c.as_slice.ensures.value in
    let here = row_place sort rows held c.requires.sorted c.requires.there in
    subst (λ now. HasOneMore now held rows) (sym (c.remove.ensures.items ∙ ap (remove rows) place)) (count_removed rows (count_by (stands_before sort held.0 held.1.whole) rows) held here.0 here.1)
