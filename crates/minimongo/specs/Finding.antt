-- The documents that were found, as they are published.
use Rattle.std.specs.Prelude.{List, map, Option, Some}
use Rattle.value_model.specs.Val.{Entries}
use Rattle.ejson_value.specs.declared.key.Key.{Key}
use Rattle.ejson_value.specs.Rows.{Rows}

-- each of them as it is published
abbrev pub published : Rows → List (Key × Option Entries)
published rows = map (λ row. (row.0, Some row.1)) rows
