-- What a window shows: the first rows by the order, as many as its limit.
use Rattle.std.specs.Prelude.{◌≡◌, ℕ, List, Option, None, Some, option_and_then, if◌then◌else◌, nat_lt, count_by}
use Rattle.map_model.specs.Maps.{at, IsSorted}
use Rattle.value_model.specs.Val.{Entries}
use Rattle.value_model.specs.Order.{text_cmp}
use Rattle.ejson_value.specs.declared.sort.SortKey.{SortKey}
use Rattle.sort_window.specs.declared.rows.Row.{Row}
use Rattle.sort_window.specs.Sorting.{is_before}

-- rows by rising id
abbrev pub RowMap : Type 0
RowMap = List (List ℕ × Row)

-- what there is at some ids now, by rising id: a row, or none
abbrev pub NewsMap : Type 0
NewsMap = List (List ℕ × Option Row)

-- how many rows stand before this document
abbrev pub rows_before : List SortKey → RowMap → List ℕ → Entries → ℕ
rows_before sort rows id doc = count_by (λ row. is_before sort row.0 row.1.whole id doc) rows

-- A row is shown exactly where fewer rows than the limit stand before it. Readers see it projected.
abbrev pub shown_at : List SortKey → ℕ → RowMap → List ℕ → Option Entries
shown_at sort limit rows id =
    option_and_then (λ row. if nat_lt (rows_before sort rows id row.whole) limit then Some row.projected else None) (at text_cmp rows id)

-- by id, exactly the ids at which readers see something else than before, each with what they see now
pub record IsTold (before after : List ℕ → Option Entries) (told : List (List ℕ × Option Entries)) : Type 0 where
  pub by_id : IsSorted text_cmp told
  pub quiet : (id : List ℕ) → at text_cmp told id ≡ None → before id ≡ after id
  pub news : (id : List ℕ) (doc : Option Entries) → at text_cmp told id ≡ Some doc → (doc ≡ after id) × (before id ≡ after id → ⊥)
