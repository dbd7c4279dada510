-- What observers of cursors stand at, and what they say as contents change (Meteor's `observeChanges`; guide, "Publications and data loading").
use Rattle.std.specs.Prelude.{◌≡◌, ℕ, Bool, List, [], ◌∷◌, map, Option, None, Some, IfSome, option_map, option_and_then}
use Rattle.std.specs.List.{AllByRecursion, list_any}
use Rattle.map_model.specs.Maps.{at, IsSorted}
use Rattle.map_model.specs.Changes.{Leads}
use Rattle.value_model.specs.Val.{Entries, fields_of, entries_of}
use Rattle.value_model.specs.Size.{is_name}
use Rattle.ejson_value.specs.declared.key.Key.{Key}
use Rattle.ejson_value.specs.declared.change.Change.{Change}
use Rattle.ejson_value.specs.declared.sort.SortKey.{SortKey}
use Rattle.ejson_value.specs.Key.{key_cmp, key_of}
use Rattle.ejson_value.specs.Rows.{Rows}
use Rattle.ejson_value.specs.Changes.{changes_of}
use Rattle.sort_window.specs.declared.rows.Row.{Row}
use Rattle.sort_window.specs.Shown.{RowMap}
use Rattle.sort_window.specs.Windows.{WindowState, MovesState, rows_after, AreMovesOf}
use Rattle.publication.specs.declared.cursor.Cursor.{Cursor}
use Rattle.publication.specs.Cursors.{ACursors, HaveDistinctNames}
use Rattle.publication.specs.Projected.{projected}
use Rattle.publication.specs.Published.{matching, published}
use Rattle.live_observer.specs.declared.watched.Watched.{Watched}

abbrev pub AnObserver : Type 0
AnObserver = List Watched

abbrev pub cursors_of : AnObserver → ACursors
cursors_of watched = map (λ (w : Watched). w.cursor) watched

-- a document as it is published and whole
abbrev pub row_of : Cursor → Entries → Row
row_of cursor doc = record { whole = doc; projected = entries_of (projected cursor.fields (fields_of doc)) }

-- the documents that match, by id
abbrev pub window_rows : Cursor → Rows → RowMap
window_rows cursor rows = map (λ doc. (doc.0, row_of cursor doc.1)) (matching cursor rows)

-- A cursor with a limit stands at the contents of which its window has the documents that match. One without a limit stands at any.
abbrev pub IsAt : Rows → Watched → Type 0
IsAt rows w = IfSome w.window (λ window. window.rows ≡ window_rows w.cursor rows)

abbrev pub StandsAt : AnObserver → Rows → Type 0
StandsAt watched rows = AllByRecursion (IsAt rows) watched

-- the changes lead on from contents where the observer stands
pub record Follows (watched : AnObserver) (changes : List Change) (rows rows' : Rows) : Type 0 where
  pub by_key : IsSorted key_cmp rows
  pub stands : StandsAt watched rows
  pub leads : Leads key_cmp (changes_of changes) rows rows'

-- by key, exactly the keys at which something else is seen afterwards, each with what is seen there then
pub record IsDifference (before after : Key → Option Entries) (told : List (Key × Option Entries)) : Type 0 where
  pub by_key : IsSorted key_cmp told
  pub quiet : (key : Key) → at key_cmp told key ≡ None → before key ≡ after key
  pub news : (key : Key) (doc : Option Entries) → at key_cmp told key ≡ Some doc → (doc ≡ after key) × (before key ≡ after key → ⊥)

-- what becomes of the windows, cursor by cursor, where anything does
abbrev pub APlan : Type 0
APlan = List (Option MovesState)

abbrev pub moved : MovesState → WindowState → WindowState
moved moves window = record window { rows = rows_after window moves }

abbrev pub carried_one : Watched → Option MovesState → Watched
carried_one w None = w
carried_one w (Some moves) = record w { window = option_map (moved moves) w.window }

-- the observer once the plan is carried out
abbrev pub carried : AnObserver → APlan → AnObserver
carried [] plan = []
carried (w ∷ watched) [] = w ∷ watched
carried (w ∷ watched) (moves ∷ plan) = carried_one w moves ∷ carried watched plan

abbrev pub IsMoveOf : Watched → Option MovesState → Type 0
IsMoveOf w None = Unit {0}
IsMoveOf w (Some moves) = IfSome w.window (λ window. AreMovesOf window moves)

-- the plan is of this observer as it stands
abbrev pub IsPlanOf : AnObserver → APlan → Type 0
IsPlanOf watched [] = Unit {0}
IsPlanOf [] (moves ∷ plan) = ⊥
IsPlanOf (w ∷ watched) (moves ∷ plan) = IsMoveOf w moves × IsPlanOf watched plan

-- the answer is the difference of what the cursors publish, and the plan leads to where the contents are then
pub record IsStep (watched : AnObserver) (rows rows' : Rows) (told : List (Key × Option Entries)) (plan : APlan) : Type 0 where
  pub differs : IsDifference (published (cursors_of watched) rows) (published (cursors_of watched) rows') told
  pub lands : StandsAt (carried watched plan) rows'

-- the change is of a document in the cursor's collection
abbrev pub is_own : Cursor → Change → Bool
is_own cursor change = is_name cursor.collection change.key.collection

-- one of the changes is of a document in some cursor's collection
abbrev pub touches : AnObserver → List Change → Bool
touches watched changes = list_any (λ (change : Change). list_any (λ (w : Watched). is_own w.cursor change) watched) changes

-- sort keys and a limit
abbrev pub Kind : Type 0
Kind = List SortKey × ℕ

abbrev pub kind : WindowState → Kind
kind window = (window.sort, window.limit)

abbrev pub kind_by : List SortKey → ℕ → Kind
kind_by sort limit = (sort, limit)

-- a window has its cursor's sort and limit, and there is one where there is a limit
abbrev pub IsWatching : Watched → Type 0
IsWatching w = option_map kind w.window ≡ option_map (kind_by w.cursor.sort) w.cursor.limit

pub record IsWhole (watched : AnObserver) : Type 0 where
  pub names : HaveDistinctNames (cursors_of watched)
  pub windows : AllByRecursion IsWatching watched

abbrev pub HaveNoLimit : ACursors → Type 0
HaveNoLimit cursors = AllByRecursion (λ (cursor : Cursor). cursor.limit ≡ None) cursors
