-- Published documents put into contents, one after another.
use Rattle.std.specs.Prelude.{ℕ, option_and_then, List, [], ◌∷◌, ◌++◌, ◌&&◌, Option, None, Some, if◌then◌else◌}
use Rattle.map_model.specs.Maps.{at, set}
use Rattle.value_model.specs.Val.{Entries, fields_of, entries_of}
use Rattle.value_model.specs.Size.{is_name}
use Rattle.ejson_value.specs.declared.key.Key.{Key}
use Rattle.ejson_value.specs.declared.change.Publish.{Publish}
use Rattle.ejson_value.specs.Key.{key_cmp, key_of}
use Rattle.ejson_value.specs.Rows.{Rows}
use Rattle.selector_match.specs.Holds.{holds}
use Rattle.publication.specs.declared.cursor.Cursor.{Cursor}
use Rattle.publication.specs.Cursors.{ACursors}
use Rattle.publication.specs.Projected.{projected}
use Rattle.publication.specs.Published.{Documents, rank, is_within, published_of, publish_of}

-- what is published of a document with an id
abbrev pub Publishing : Type 0
Publishing = List ℕ → Entries → Option Entries

-- where these are the documents that match
abbrev pub published_among : Cursor → Documents → Publishing
published_among cursor docs id doc =
    if holds cursor.selector id doc && is_within cursor.limit (rank cursor docs id doc) then Some
    (entries_of (projected cursor.fields (fields_of doc))) else None

-- what is published of a row, if it is of the cursor's collection
abbrev pub row_published : Publishing → Cursor → Key → Entries → Option Entries
row_published shown cursor key doc = if is_name key.collection cursor.collection then shown key.id doc else None

abbrev pub put_document : Rows → Key → Option Entries → Rows
put_document found key None = found
put_document found key (Some doc) = set key_cmp found key (Some doc)

abbrev pub put_row : Publishing → Rows → Cursor → Key → Entries → Rows
put_row shown found cursor key doc = put_document found (key_of cursor.name key.id) (row_published shown cursor key doc)

abbrev pub put_rows : Publishing → Rows → Cursor → Rows → Rows
put_rows shown found cursor [] = found
put_rows shown found cursor (row ∷ rows) = put_rows shown (put_row shown found cursor row.0 row.1) cursor rows

-- of rows of the cursor's collection alone
abbrev pub put_own : Publishing → Rows → Cursor → Rows → Rows
put_own shown found cursor [] = found
put_own shown found cursor (row ∷ rows) = put_own shown (put_document found (key_of cursor.name row.0.id) (shown row.0.id row.1)) cursor rows

-- what is published of the document of the cursor's collection with this id
abbrev pub published_at : Publishing → Cursor → Rows → List ℕ → Option Entries
published_at shown cursor rows id = option_and_then (shown id) (at key_cmp rows (key_of cursor.collection id))

abbrev pub put_all : Rows → ACursors → Rows → Rows
put_all found [] rows = found
put_all found (cursor ∷ cursors) rows = put_all (put_rows (published_of cursor rows) found cursor rows) cursors rows

abbrev pub listed_behind : List Publish → Rows → List Publish
listed_behind so_far [] = so_far
listed_behind so_far (row ∷ rows) = listed_behind (so_far ++ publish_of row ∷ []) rows
