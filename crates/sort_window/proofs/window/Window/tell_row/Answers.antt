use Rattle.std.proofs.Common.{ℕ, ◌≡◌, ◌<◌, ap, sym, subst, ◌∙◌}
use Rattle.std.specs.Prelude.{count_by}
use Rattle.map_model.specs.Maps.{IsSorted}
use Rattle.value_model.specs.Order.{text_cmp}
use Rattle.sort_window.specs.Shown.{RowMap}
use Rattle.sort_window.specs.Inside.{has_id, is_row}
use Rattle.sort_window.specs.Windows.{WindowState, before, after}
use Rattle.sort_window.proofs.Telling.{gone_told, stays}
use Rattle.sort_window.proofs.window.Window.tell_row.Goals as goal

pub returns-then-contains-clause-here : goal.returns-then-contains-clause-here
returns-then-contains-clause-here c =
    let self = c.args.self.now in
    let draft = c.args.draft.now in
    let id = c.args.held.now.0 in
    let there = c.contains.ensures.there c.if-contains.true in
    let gone = ap (count_by (has_id id)) c.as_slice.ensures.value ∙ c.requires.drafted.drafted.going_same (has_id id) in
    gone_told (before self) (after self draft.changes.items) c.args.told.now.entries id draft.changes.items c.requires.all (subst (λ (n : ℕ). 0 < n) gone there)

pub tell_held-requires-clause-stays : goal.tell_held-requires-clause-stays
tell_held-requires-clause-stays c =
    let self = c.args.self.now in
    let draft = c.args.draft.now in
    let held = c.args.held.now in
    let rows : c.self.inside.by_id.items ≡ self.rows = ap (λ (w : WindowState). w.rows) c.self.view_is in
    let sorted = subst (λ (rows : RowMap). IsSorted text_cmp rows) rows c.self.invariant.ids in
    let none = sym (ap (count_by (is_row held)) c.as_slice.ensures.value ∙ c.requires.drafted.drafted.going_same (is_row held)) ∙ c.contains.ensures.missing c.if-contains.false in
    stays self.rows self.rows draft.changes.items held.0 held.1 sorted c.requires.drafted.stand c.requires.stands c.requires.stands none
