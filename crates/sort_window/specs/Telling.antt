-- What readers are told, id by id.
use Rattle.std.specs.Prelude.{◌≡◌, ℕ, List, Option, None, Some, option_and_then, if◌then◌else◌, nat_lt, count_by, ◌⊎◌}
use Rattle.std.specs.List.{AllByRecursion}
use Rattle.map_model.specs.Maps.{at, set}
use Rattle.map_model.specs.Changes.{Change, changed, Fit}
use Rattle.value_model.specs.Val.{Entries}
use Rattle.value_model.specs.Order.{text_cmp}
use Rattle.ejson_value.specs.declared.sort.SortKey.{SortKey}
use Rattle.sort_window.specs.declared.rows.Row.{Row}
use Rattle.sort_window.specs.Shown.{RowMap}
use Rattle.sort_window.specs.Inside.{stands_before}
use Rattle.sort_window.specs.Drafts.{Stand, End, AreDrafted}
use Rattle.sort_window.specs.Windows.{WindowState}

-- The changes can be made of the window's rows, and each begins and ends with what stands at its id then. The rows that go and come are theirs.
pub record IsDraftOf (window : WindowState) (changes : List (Change (List ℕ) Row)) (going coming : RowMap) : Type 0 where
  pub fit : Fit text_cmp window.rows changes
  pub drafted : AreDrafted window.sort changes going coming
  pub stand : Stand window.rows changes
  pub end : End (changed text_cmp window.rows changes) changes

-- what is told so far
abbrev pub ToldMap : Type 0
ToldMap = List (List ℕ × Option Entries)

-- what readers see of a row among these rows
abbrev pub seen : List SortKey → ℕ → RowMap → Option (List ℕ × Row) → Option Entries
seen sort limit rows held =
    option_and_then (λ row. if nat_lt (count_by (stands_before sort row.0 row.1.whole) rows) limit then Some row.1.projected else None) held

-- one id is told of, where readers see something else there
abbrev pub IsOneTold : ToldMap → List ℕ → Option Entries → Option Entries → ToldMap → Type 0
IsOneTold old id before after new = ((before ≡ after) × (new ≡ old)) ⊎ ((before ≡ after → ⊥) × (new ≡ set text_cmp old id (Some after)))

module _ (before after : List ℕ → Option Entries) where
  -- what is told is what readers see now, and something else than before
  abbrev pub IsRight : ToldMap → Type 0
  IsRight told = (id : List ℕ) (doc : Option Entries) → at text_cmp told id ≡ Some doc → (doc ≡ after id) × (before id ≡ after id → ⊥)

  -- where nothing is told of an id, readers see what they saw
  abbrev pub IsQuiet : ToldMap → List ℕ → Type 0
  IsQuiet told id = at text_cmp told id ≡ None → before id ≡ after id

  -- more is told, and what was right and quiet is so still
  pub record IsToldMore (old new : ToldMap) : Type 0 where
    pub right : IsRight old → IsRight new
    pub quiet : (id : List ℕ) → IsQuiet old id → IsQuiet new id

  -- every change has been told of
  abbrev pub AreTold : ToldMap → List (Change (List ℕ) Row) → Type 0
  AreTold told changes = AllByRecursion (λ (c : Change (List ℕ) Row). IsQuiet told c.key) changes

  -- every row has been told of
  abbrev pub RowsAreTold : ToldMap → RowMap → Type 0
  RowsAreTold told rows = AllByRecursion (λ (row : List ℕ × Row). IsQuiet told row.0) rows
