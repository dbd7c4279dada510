-- Documents that were found, as rows.
use Rattle.std.specs.Prelude.{List, [], ◌∷◌, map, Option, None, Some, if◌then◌else◌}
use Rattle.value_model.specs.Val.{Entries}
use Rattle.ejson_value.specs.declared.key.Key.{Key}
use Rattle.ejson_value.specs.Rows.{Rows}
use Rattle.selector_match.specs.Query.{Query}
use Rattle.selector_match.specs.Holds.{holds}
use Rattle.collection_store.specs.declared.finding.Match.{Match}
use Rattle.collection_store.specs.Applied.{Row}

abbrev pub row_of : Match → Row
row_of m = (m.key, m.doc.now)

abbrev pub rows_in : List Match → Rows
rows_in ms = map row_of ms

-- the document at a key, if there is one and the selector holds of it
abbrev pub if_held : Query → Key → Option Entries → Rows
if_held selector key None = []
if_held selector key (Some doc) = if holds selector key.id doc then (key, doc) ∷ [] else []
