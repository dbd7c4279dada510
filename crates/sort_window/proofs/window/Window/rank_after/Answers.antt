use Rattle.std.proofs.Common.{◌≡◌, ap, subst, ◌∙◌, arith}
use Rattle.std.specs.Prelude.{count_by}
use Rattle.map_model.specs.Maps.{IsSorted}
use Rattle.value_model.specs.Order.{text_cmp}
use Rattle.sort_window.specs.Shown.{RowMap}
use Rattle.sort_window.specs.Inside.{stands_before}
use Rattle.sort_window.specs.Windows.{WindowState}
use Rattle.sort_window.proofs.Crossing.{after_changes}
use Rattle.sort_window.proofs.window.Window.rank_after.Goals as goal

pub returns : goal.returns
returns c =
    let self = c.args.self.now in
    let draft = c.args.draft.now in
    let held = c.args.held.now in
    let test = stands_before self.sort held.0 held.1.whole in
    let rows : c.self.inside.by_id.items ≡ self.rows = ap (λ (w : WindowState). w.rows) c.self.view_is in
    let stand : c.rank-stand.result ≡ count_by test self.rows = c.rank-stand.ensures ∙ ap (count_by test) c.as_slice.ensures.value ∙ c.self.invariant.same test ∙ ap (count_by test) rows in
    let come : c.rank-come.result ≡ count_by test draft.coming.items = c.rank-come.ensures ∙ ap (count_by test) c.as_slice-2.ensures.value in
    let go : c.rank-go.result ≡ count_by test draft.going.items = c.rank-go.ensures ∙ ap (count_by test) c.as_slice-3.ensures.value in
    let sorted = subst (λ (rows : RowMap). IsSorted text_cmp rows) rows c.self.invariant.ids in
    let all = after_changes test self.rows draft.changes.items draft.going.items draft.coming.items sorted c.requires.fit c.requires.drafted.going_same c.requires.drafted.coming_same in
    let left = c.saturating_sub.ensures in
    omega (arith, stand, come, go, all, left)
