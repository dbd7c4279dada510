-- What a plan drafts: its changes, the rows that go and those that come, each in order.
use Rattle.std.specs.Prelude.{◌≡◌, ℕ, List, [], ◌∷◌, Option, None, Some}
use Rattle.map_model.specs.Maps.{at, keyed}
use Rattle.map_model.specs.Changes.{Change}
use Rattle.value_model.specs.Order.{text_cmp}
use Rattle.ejson_value.specs.declared.sort.SortKey.{SortKey}
use Rattle.sort_window.specs.declared.rows.Row.{Row}
use Rattle.sort_window.specs.Shown.{RowMap}
use Rattle.sort_window.specs.Inside.{AreInOrder, AreSameRows, HasOneMore}

-- the rows that go
abbrev pub befores : List (Change (List ℕ) Row) → RowMap
befores [] = []
befores (c ∷ changes) = keyed c.key c.before (befores changes)

-- the rows that come
abbrev pub afters : List (Change (List ℕ) Row) → RowMap
afters [] = []
afters (c ∷ changes) = keyed c.key c.after (afters changes)

-- a list has the rows of the other, and this row if it is one
abbrev pub HasMoreIf : RowMap → Option (List ℕ × Row) → RowMap → Type 0
HasMoreIf a None b = AreSameRows b a
HasMoreIf a (Some row) b = HasOneMore a row b

-- each of these rows stands at its id
abbrev pub AreRowsOf : RowMap → RowMap → Type 0
AreRowsOf rows [] = Unit {0}
AreRowsOf rows (row ∷ some) = (at text_cmp rows row.0 ≡ Some row.1) × AreRowsOf rows some

-- each change begins with what stands at its id
abbrev pub Stand : RowMap → List (Change (List ℕ) Row) → Type 0
Stand rows [] = Unit {0}
Stand rows (c ∷ changes) = (at text_cmp rows c.key ≡ c.before) × Stand rows changes

-- each change ends with what stands at its id
abbrev pub End : RowMap → List (Change (List ℕ) Row) → Type 0
End rows [] = Unit {0}
End rows (c ∷ changes) = (at text_cmp rows c.key ≡ c.after) × End rows changes

-- the rows that go and come are those of the changes, in order
pub record AreDrafted (sort : List SortKey) (changes : List (Change (List ℕ) Row)) (going coming : RowMap) : Type 0 where
  pub going_order : AreInOrder sort going
  pub coming_order : AreInOrder sort coming
  pub going_same : AreSameRows going (befores changes)
  pub coming_same : AreSameRows coming (afters changes)
