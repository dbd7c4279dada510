-- A selector that names a document by its id alone.
use Rattle.std.specs.Prelude.{ℕ, List, [], ◌∷◌, Option, None, Some, codes}
use Rattle.value_model.specs.Val.{Val, Entries, text, object, field, no_fields}
use Rattle.ejson_value.specs.declared.key.Key.{Key}
use Rattle.ejson_value.specs.Rows.{Rows}

abbrev pub naming : List ℕ → Val
naming id = object (field (codes "_id") (text id) no_fields)

-- the document at a key, if there is one
abbrev pub row_at : Key → Option Entries → Rows
row_at key None = []
row_at key (Some doc) = (key, doc) ∷ []
