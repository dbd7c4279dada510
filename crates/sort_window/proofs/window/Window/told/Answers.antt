use Rattle.std.proofs.Common.{◌≡◌, ℕ, List, true, false, None, Some, refl, ap, sym, subst, ◌∙◌}
use Rattle.std.specs.List.{list_any}
use Rattle.map_model.specs.Maps.{at, IsSorted}
use Rattle.map_model.specs.Changes.{Change, changed}
use Rattle.value_model.specs.Size.{is_name}
use Rattle.value_model.specs.Order.{text_cmp}
use Rattle.sort_window.specs.declared.rows.Row.{Row}
use Rattle.sort_window.specs.Shown.{RowMap, IsTold}
use Rattle.sort_window.specs.Telling.{ToldMap, IsRight, IsQuiet}
use Rattle.sort_window.specs.Windows.{WindowState, before, after}
use Rattle.sort_window.proofs.Telling.{shown_is, changes_still}
use Rattle.sort_window.proofs.Staying.{unnamed, told_named, right_nothing, then_if2}
use Rattle.sort_window.proofs.window.Window.told.Goals as goal

pub returns : goal.returns
returns c =
    let self = c.args.self.now in
    let changes = c.args.draft.now.changes.items in
    let next = changed text_cmp self.rows changes in
    let first = c.tell_changes.new.told.entries in
    let last = c.tell_crossing.new.told.entries in
    let rows : c.self.inside.by_id.items ≡ self.rows = ap (λ (w : WindowState). w.rows) c.self.view_is in
    let sorted = subst (λ (rows : RowMap). IsSorted text_cmp rows) rows c.self.invariant.ids in
    let B = before self in
    let A = after self changes in
    let begun = subst (λ (told : ToldMap). IsRight B A told) (sym c.new-told.ensures.empty) (right_nothing B A) in
    let right = c.in_ok-tell_crossing.ensures.more.right (c.in_ok-tell_changes.ensures.more.right begun) in
    let all = changes_still B A first last c.in_ok-tell_crossing.ensures.more changes c.in_ok-tell_changes.ensures.all in
    let other : (id : List ℕ) → at text_cmp next id ≡ at text_cmp self.rows id → IsQuiet B A last id = λ id same.
    elim (at text_cmp self.rows id) as (λ w. at text_cmp self.rows id ≡ w → IsQuiet B A last id) [
      | None ↦ λ e none. shown_is self.sort self.limit self.rows id None e ∙ sym (shown_is self.sort self.limit next id None (same ∙ e))
      | Some row ↦ λ e. c.in_ok-tell_crossing.ensures.rows id row e (same ∙ e)
    ] refl in
    let quiet : (id : List ℕ) → IsQuiet B A last id = λ id.
    elim (list_any (λ (change : Change (List ℕ) Row). is_name id change.key) changes) as (λ b. list_any (λ (change : Change (List ℕ) Row). is_name id change.key) changes ≡ b → IsQuiet B A last id) [
      | true ↦ λ e. told_named B A last changes id all e
      | false ↦ λ e. other id (unnamed self.rows changes id sorted e)
    ] refl in
    then_if2 c.listed.result (λ shown is ordered. subst (λ (told : ToldMap). IsTold B A told) (sym is) (record { by_id = ordered; quiet = quiet; news = right })) c.listed.ensures.all c.listed.ensures.ordered
