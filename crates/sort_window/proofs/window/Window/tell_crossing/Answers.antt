use Rattle.std.proofs.lemmas.Result.{on_ok_weaker}
use Rattle.std.proofs.Common.{◌≡◌, ◌-◌, take, drop, ap, sym, subst, arith}
use Rattle.map_model.specs.Maps.{IsSorted}
use Rattle.value_model.specs.Order.{text_cmp}
use Rattle.sort_window.specs.Shown.{RowMap}
use Rattle.sort_window.specs.Inside.{AreInOrder, AreSameRows}
use Rattle.sort_window.specs.Drafts.{AreRowsOf}
use Rattle.sort_window.specs.Telling.{RowsAreTold}
use Rattle.sort_window.specs.Windows.{WindowState, before, after}
use Rattle.sort_window.proofs.Staying.{same_are, rows_take, rows_drop, quiet_anywhere}
use Rattle.sort_window.proofs.window.Window.tell_crossing.Goals as goal

pub tell_rows-requires-clause-rows : goal.tell_rows-requires-clause-rows
tell_rows-requires-clause-rows c =
    let self = c.args.self.now in
    let in_order = c.self.inside.in_order.items in
    let rows : c.self.inside.by_id.items ≡ self.rows = ap (λ (w : WindowState). w.rows) c.self.view_is in
    let sorted = subst (λ (rows : RowMap). IsSorted text_cmp rows) rows c.self.invariant.ids in
    let same = subst (λ (rows : RowMap). AreSameRows in_order rows) rows c.self.invariant.same in
    let start = c.min-start.result in
    let n = c.min-end.result - c.min-start.result in
    subst (λ (xs : RowMap). AreRowsOf self.rows (take n (drop start xs))) (sym c.deref.ensures.value) (rows_take self.rows (drop start in_order) n (rows_drop self.rows in_order start (same_are self.rows in_order sorted same)))

pub returns-clause-rows : goal.returns-clause-rows
returns-clause-rows c =
    let self = c.args.self.now in
    let changes = c.args.draft.now.changes.items in
    let in_order = c.self.inside.in_order.items in
    let rows : c.self.inside.by_id.items ≡ self.rows = ap (λ (w : WindowState). w.rows) c.self.view_is in
    let sorts = ap (λ (w : WindowState). w.sort) c.self.view_is in
    let sorted = subst (λ (rows : RowMap). IsSorted text_cmp rows) rows c.self.invariant.ids in
    let same = subst (λ (rows : RowMap). AreSameRows in_order rows) rows c.self.invariant.same in
    let order = subst (λ sort. AreInOrder sort in_order) sorts c.self.invariant.order in
    let start = c.min-start.result in
    let n = c.min-end.result - c.min-start.result in
    let new = c.tell_rows.new.told.entries in
    let begins = c.min-start.ensures in
    let stops = c.min-end.ensures in
    let less = c.saturating_sub.ensures in
    let more = c.saturating_add.ensures in
    let many = c.len.ensures in
    let count = c.len-count.ensures in
    on_ok_weaker c.tell_rows.result (λ told id row there stays.
    quiet_anywhere self.sort self.limit self.rows changes sorted c.requires.drafted.fit in_order start n new order same
    (λ i within below. grind (arith, within, below, begins, stops, less, more, many, count))
    (λ i within behind. grind (arith, within, behind, begins, stops, less, more, many, count))
    (subst (λ (xs : RowMap). RowsAreTold (before self) (after self changes) new (take n (drop start xs))) c.deref.ensures.value told)
    id row there stays) c.tell_rows.ensures.here
