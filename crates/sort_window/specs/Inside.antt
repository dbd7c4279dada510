-- What a window keeps inside: its rows by id, and the same rows in order.
use Rattle.std.specs.Prelude.{◌≡◌, ℕ, Bool, ◌&&◌, List, ◌∷◌, count_by}
use Rattle.std.specs.List.Sorted.{IsStrictlySortedBy}
use Rattle.std.specs.declared.cmp.Ordering.{Ordering}
use Rattle.std.specs.Ordering.{is_lt, is_eq}
use Rattle.map_model.specs.Maps.{IsSorted}
use Rattle.value_model.specs.Val.{Entries, fields_of}
use Rattle.value_model.specs.Order.{text_cmp, fields_cmp}
use Rattle.ejson_value.specs.declared.sort.SortKey.{SortKey}
use Rattle.sort_window.specs.declared.rows.Row.{Row}
use Rattle.sort_window.specs.Sorting.{id_doc_cmp, is_before}
use Rattle.sort_window.specs.Shown.{RowMap}

abbrev pub stands_before : List SortKey → List ℕ → Entries → List ℕ × Row → Bool
stands_before sort id whole row = is_before sort row.0 row.1.whole id whole

abbrev pub has_id : List ℕ → List ℕ × Row → Bool
has_id id row = is_eq (text_cmp row.0 id)

abbrev pub is_doc : Entries → Entries → Bool
is_doc a b = is_eq (fields_cmp (fields_of a) (fields_of b))

-- the rows are equal
abbrev pub is_row : List ℕ × Row → List ℕ × Row → Bool
is_row a b = has_id b.0 a && (is_doc a.1.whole b.1.whole && is_doc a.1.projected b.1.projected)

abbrev pub has_id_below : List ℕ → List ℕ × Row → Bool
has_id_below id row = is_lt (text_cmp row.0 id)

abbrev pub row_cmp : List SortKey → List ℕ × Row → List ℕ × Row → Ordering
row_cmp sort a b = id_doc_cmp sort a.0 a.1.whole b.0 b.1.whole

abbrev pub AreInOrder : List SortKey → RowMap → Type 0
AreInOrder sort rows = IsStrictlySortedBy (row_cmp sort) rows

-- one list has the rows of the other
abbrev pub AreSameRows : RowMap → RowMap → Type 0
AreSameRows a b = (test : List ℕ × Row → Bool) → count_by test a ≡ count_by test b

-- a list has the rows of the other, and this row
abbrev pub HasOneMore : RowMap → List ℕ × Row → RowMap → Type 0
HasOneMore a row b = (test : List ℕ × Row → Bool) → count_by test b ≡ count_by test (row ∷ a)

pub record IsInside (sort : List SortKey) (by_id in_order : RowMap) : Type 0 where
  pub ids : IsSorted text_cmp by_id
  pub order : AreInOrder sort in_order
  pub same : AreSameRows in_order by_id
