-- What cursors publish of a store's contents: the documents of a cursor's collection that its selector holds of, or with a limit the first of these
-- in the cursor's order, each projected, under the cursor's name (Meteor's guide, "Publications and data loading"; `sort` and `limit` of Meteor's
-- `find`).
use Rattle.std.specs.Prelude.{◌≡◌, ℕ, Bool, true, ◌&&◌, List, [], ◌∷◌, map, filter, count_by, nat_lt, Option, None, Some, option_and_then, if◌then◌else◌}
use Rattle.std.specs.Option.{option_or}
use Rattle.map_model.specs.Maps.{at, IsSorted}
use Rattle.value_model.specs.Val.{Entries, fields_of, entries_of}
use Rattle.value_model.specs.Size.{is_name}
use Rattle.ejson_value.specs.declared.key.Key.{Key}
use Rattle.ejson_value.specs.declared.change.Publish.{Publish}
use Rattle.ejson_value.specs.Key.{key_cmp, key_of}
use Rattle.ejson_value.specs.Rows.{Rows, rows_of}
use Rattle.selector_match.specs.Holds.{holds}
use Rattle.sort_window.specs.Sorting.{is_before}
use Rattle.publication.specs.declared.cursor.Cursor.{Cursor}
use Rattle.publication.specs.Cursors.{ACursors}
use Rattle.publication.specs.Projected.{projected}

-- documents with their ids
abbrev pub Documents : Type 0
Documents = List (List ℕ × Entries)

abbrev pub document_of : Key × Entries → List ℕ × Entries
document_of row = (row.0.id, row.1)

-- the documents of a cursor's collection that its selector holds of
abbrev pub matching : Cursor → Rows → Documents
matching cursor rows = filter (λ doc. holds cursor.selector doc.0 doc.1) (map document_of (rows_of cursor.collection rows))

-- another document stands before this one: by the sort keys, and where these tie by id
abbrev pub stands_before : Cursor → List ℕ → Entries → List ℕ × Entries → Bool
stands_before cursor id doc other = is_before cursor.sort other.0 other.1 id doc

-- how many of the documents stand before this one
abbrev pub rank : Cursor → Documents → List ℕ → Entries → ℕ
rank cursor docs id doc = count_by (stands_before cursor id doc) docs

-- without a limit all documents are within it
abbrev pub is_within : Option ℕ → ℕ → Bool
is_within None before = true
is_within (Some limit) before = nat_lt before limit

-- a document that the selector holds of is shown exactly where fewer of those that match stand before it than the limit
abbrev pub is_shown : Cursor → Rows → List ℕ → Entries → Bool
is_shown cursor rows id doc = holds cursor.selector id doc && is_within cursor.limit (rank cursor (matching cursor rows) id doc)

-- what is published of a document of the contents, if it is shown
abbrev pub published_of : Cursor → Rows → List ℕ → Entries → Option Entries
published_of cursor rows id doc = if is_shown cursor rows id doc then Some (entries_of (projected cursor.fields (fields_of doc))) else None

-- what a cursor publishes at a key: of the document with this id in its collection
abbrev pub published_by : Cursor → Rows → Key → Option Entries
published_by cursor rows key =
    if is_name cursor.name key.collection then option_and_then (published_of cursor rows key.id) (at key_cmp rows (key_of cursor.collection key.id)) else None

-- what some cursor publishes at a key; as they have different names, no other one does
abbrev pub published : ACursors → Rows → Key → Option Entries
published [] rows key = None
published (cursor ∷ cursors) rows key = option_or (published cursors rows key) (published_by cursor rows key)

abbrev pub publish_of : Key × Entries → Publish
publish_of row = record { key = row.0; new = Some row.1 }

-- the whole query: every published document, by key
pub record IsQuery (cursors : ACursors) (rows : Rows) (answer : List Publish) : Type 0 where
  pub documents : Rows
  pub listed : answer ≡ map publish_of documents
  pub by_key : IsSorted key_cmp documents
  pub each : (key : Key) → at key_cmp documents key ≡ published cursors rows key
