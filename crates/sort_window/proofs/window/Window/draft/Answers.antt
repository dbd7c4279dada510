use Rattle.std.proofs.Common.{◌≡◌, [], ◌++◌, append-nil, ap, sym, subst, ◌∙◌}
use Rattle.map_model.specs.Maps.{IsSorted}
use Rattle.value_model.specs.Order.{text_cmp}
use Rattle.sort_window.specs.Shown.{RowMap}
use Rattle.sort_window.specs.Windows.{WindowState}
use Rattle.sort_window.proofs.Drafting.{drafted_nothing, new_id}
use Rattle.sort_window.proofs.Staying.{all_changes, draft_of}
use Rattle.sort_window.proofs.window.Window.draft.Goals as goal

pub draft_one-requires-clause-new : goal.draft_one-requires-clause-new
draft_one-requires-clause-new c =
    let self = c.args.self.now in
    let changes = c.loop-id.draft.changes.items in
    let id = c.in-Some.id.now in
    let row = c.in-Some.row.now in
    let all = ap (λ rest. changes ++ all_changes self.rows rest) (sym c.in-Some.ensures.steps) ∙ c.loop-id.invariant.2 in
    new_id self.rows c.args.news.now c.next.new.self changes id row c.iter-id-items.ensures.ordered all

pub loop-id-init : goal.loop-id-init
loop-id-init c =
    let self = c.args.self.now in
    let made = c.new-draft.ensures in
    let none : c.new-draft.result.changes.items ≡ [] = made.0 in (
      tt,
      tt,
      ap (λ changes. changes ++ all_changes self.rows c.into_iter-id-iterator.result) none ∙ ap (all_changes self.rows) (c.into_iter-id-iterator.ensures.into_iter_gives ∙ c.iter-id-items.ensures.all),
      drafted_nothing self.sort c.new-draft.result.changes.items c.new-draft.result.going.items c.new-draft.result.coming.items made.0 made.1 made.2,
    )

pub returns-clause-drafted : goal.returns-clause-drafted
returns-clause-drafted c =
    let self = c.args.self.now in
    let draft = c.loop-id.draft in
    let rows : c.self.inside.by_id.items ≡ self.rows = ap (λ (w : WindowState). w.rows) c.self.view_is in
    let sorted = subst (λ (rows : RowMap). IsSorted text_cmp rows) rows c.self.invariant.ids in
    let none = c.in-None.ensures.steps.0 in
    let all = sym (append-nil draft.changes.items) ∙ ap (λ rest. draft.changes.items ++ all_changes self.rows rest) (sym none) ∙ c.loop-id.invariant.2 in
    draft_of self c.args.news.now draft.changes.items draft.going.items draft.coming.items sorted c.iter-id-items.ensures.ordered all c.loop-id.invariant.3
