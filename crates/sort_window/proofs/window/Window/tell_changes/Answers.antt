use Rattle.sort_window.specs.Telling.{IsQuiet}
use Rattle.std.proofs.Common.{◌≡◌, ◌<◌, List, ℕ, length, get_or, take, subst}
use Rattle.map_model.specs.Changes.{Change, changed}
use Rattle.value_model.specs.Order.{text_cmp}
use Rattle.sort_window.specs.declared.rows.Row.{Row}
use Rattle.sort_window.specs.Windows.{before, after}
use Rattle.sort_window.proofs.Telling.{stand_at, end_at, all_next, changes_still, more_more}
use Rattle.sort_window.proofs.window.Window.tell_changes.Goals as goal

pub tell_change-requires-clause-stands : goal.tell_change-requires-clause-stands
tell_change-requires-clause-stands c =
    let i = c.loop-change.change-index in
    let change = c.change-item.result in
    let items = c.deref-change-items.ensures.value in
    let within = subst (λ (xs : List (Change (List ℕ) Row)). i < length xs) items c.loop-change-test.true in
    let is = subst (λ (xs : List (Change (List ℕ) Row)). change ≡ get_or xs i change) items c.change-item.is in
    stand_at c.args.self.now.rows c.args.draft.now.changes.items i change c.requires.stand within is

pub tell_change-requires-clause-ends : goal.tell_change-requires-clause-ends
tell_change-requires-clause-ends c =
    let changes = c.args.draft.now.changes.items in
    let i = c.loop-change.change-index in
    let change = c.change-item.result in
    let items = c.deref-change-items.ensures.value in
    let within = subst (λ (xs : List (Change (List ℕ) Row)). i < length xs) items c.loop-change-test.true in
    let is = subst (λ (xs : List (Change (List ℕ) Row)). change ≡ get_or xs i change) items c.change-item.is in
    end_at (changed text_cmp c.args.self.now.rows changes) changes i change c.requires.end within is

pub loop-change-preserved : goal.loop-change-preserved
loop-change-preserved c =
    let self = c.args.self.now in
    let changes = c.args.draft.now.changes.items in
    let i = c.loop-change.change-index in
    let change = c.change-item.result in
    let items = c.deref-change-items.ensures.value in
    let within = subst (λ (xs : List (Change (List ℕ) Row)). i < length xs) items c.loop-change-test.true in
    let is = subst (λ (xs : List (Change (List ℕ) Row)). change ≡ get_or xs i change) items c.change-item.is in
    let told = c.loop-change.told.entries in
    let new = c.tell_change.new.told.entries in
    let more = c.in_ok-tell_change.ensures.more in
    let still = changes_still (before self) (after self changes) told new more (take i changes) c.loop-change.invariant.1 in (
      more_more (before self) (after self changes) c.args.told.now.entries told new c.loop-change.invariant.0 more,
      all_next (λ (change : Change (List ℕ) Row). IsQuiet (before self) (after self changes) new change.key) changes i change within is still c.in_ok-tell_change.ensures.here,
    )
