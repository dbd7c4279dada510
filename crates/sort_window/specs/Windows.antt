-- What contracts see of a window and of its moves.
use Rattle.std.specs.Prelude.{◌≡◌, ℕ, ◌+◌, ◌≤◌, List, Option, map, length}
use Rattle.map_model.specs.Maps.{at}
use Rattle.map_model.specs.Changes.{Change, changed, Fit}
use Rattle.value_model.specs.Val.{Entries}
use Rattle.value_model.specs.Order.{text_cmp}
use Rattle.ejson_value.specs.declared.sort.SortKey.{SortKey}
use Rattle.sort_window.specs.declared.rows.Row.{Row}
use Rattle.sort_window.specs.Shown.{RowMap, NewsMap, shown_at, IsTold}

-- all rows that match, of which the first ones are shown
pub record WindowState : Type 0 where
  pub sort : List SortKey
  pub limit : ℕ
  pub rows : RowMap

-- what becomes of rows, for how many rows in all there is room, and what readers are told
pub record MovesState : Type 0 where
  pub changes : List (Change (List ℕ) Row)
  pub room : ℕ
  pub told : List (List ℕ × Option Entries)

-- what readers see at an id now, and once the rows have changed
abbrev pub before : WindowState → List ℕ → Option Entries
before window id = shown_at window.sort window.limit window.rows id

abbrev pub after : WindowState → List (Change (List ℕ) Row) → List ℕ → Option Entries
after window changes id = shown_at window.sort window.limit (changed text_cmp window.rows changes) id

-- what becomes of the row at the id that there is news of
abbrev pub change_to : RowMap → List ℕ × Option Row → Change (List ℕ) Row
change_to rows news = record { key = news.0; before = at text_cmp rows news.0; after = news.1 }

-- the rows once the moves are carried out
abbrev pub rows_after : WindowState → MovesState → RowMap
rows_after window moves = changed text_cmp window.rows moves.changes

-- the moves can be carried out: each change begins with what stands at its id, and there is room
pub record AreMovesOf (window : WindowState) (moves : MovesState) : Type 0 where
  pub fit : Fit text_cmp window.rows moves.changes
  pub room : length window.rows + length moves.changes ≤ moves.room

-- the moves say what there is at these ids now, and what readers of the window see of it
pub record IsPlan (window : WindowState) (news : NewsMap) (moves : MovesState) : Type 0 where
  pub says : map {B = List ℕ × Option Row} (λ change. (change.key, change.after)) moves.changes ≡ news
  pub carries : AreMovesOf window moves
  pub tells : IsTold (shown_at window.sort window.limit window.rows) (shown_at window.sort window.limit (rows_after window moves)) moves.told
