use Rattle.sort_window.specs.Telling.{IsQuiet}
use Rattle.std.proofs.Common.{List, ℕ, take}
use Rattle.sort_window.specs.declared.rows.Row.{Row}
use Rattle.sort_window.specs.Windows.{before, after}
use Rattle.sort_window.proofs.Telling.{row_at, all_next, changes_still, rows_still, more_more}
use Rattle.sort_window.proofs.window.Window.tell_rows.Goals as goal

pub tell_row-requires-clause-stands : goal.tell_row-requires-clause-stands
tell_row-requires-clause-stands c = row_at c.args.self.now.rows c.args.rows.now c.loop-held.held-index c.held-item.result c.requires.rows c.loop-held-test.true c.held-item.is

pub tell_row-requires-clause-all : goal.tell_row-requires-clause-all
tell_row-requires-clause-all c =
    let changes = c.args.draft.now.changes.items in
    changes_still (before c.args.self.now) (after c.args.self.now changes) c.args.told.now.entries c.loop-held.told.entries c.loop-held.invariant.0 changes c.requires.all

pub loop-held-preserved : goal.loop-held-preserved
loop-held-preserved c =
    let self = c.args.self.now in
    let changes = c.args.draft.now.changes.items in
    let rows = c.args.rows.now in
    let i = c.loop-held.held-index in
    let told = c.loop-held.told.entries in
    let new = c.tell_row.new.told.entries in
    let more = c.in_ok-tell_row.ensures.more in
    let still = rows_still (before self) (after self changes) told new more (take i rows) c.loop-held.invariant.1 in (
      more_more (before self) (after self changes) c.args.told.now.entries told new c.loop-held.invariant.0 more,
      all_next (λ (row : List ℕ × Row). IsQuiet (before self) (after self changes) new row.0) rows i c.held-item.result c.loop-held-test.true c.held-item.is still c.in_ok-tell_row.ensures.here,
    )
