-- The documents that a cursor's limit chooses among, in the cursor's order.
use Rattle.std.specs.Prelude.{◌≡◌, ℕ, Bool, false, List, [], ◌∷◌, map, Option, None, Some, if◌then◌else◌}
use Rattle.std.specs.List.{AllByRecursion}
use Rattle.value_model.specs.Val.{Entries}
use Rattle.ejson_value.specs.declared.sort.SortKey.{SortKey}
use Rattle.ejson_value.specs.Rows.{Rows}
use Rattle.selector_match.specs.Holds.{holds}
use Rattle.sort_window.specs.Sorting.{is_before}
use Rattle.publication.specs.declared.cursor.Cursor.{Cursor}
use Rattle.publication.specs.declared.ordered.Match.{Match}
use Rattle.publication.specs.Published.{Documents, matching, rank, is_within}

abbrev pub document_in : Match → List ℕ × Entries
document_in m = (m.id.now, m.doc.now)

abbrev pub documents_in : List Match → Documents
documents_in ms = map document_in ms

-- the document with an id, if there is one and the cursor's selector holds of it
abbrev pub if_held : Cursor → List ℕ → Option Entries → Documents
if_held cursor id None = []
if_held cursor id (Some doc) = if holds cursor.selector id doc then (id, doc) ∷ [] else []

-- the first document stands before the other one
abbrev pub goes_before : List SortKey → List ℕ × Entries → List ℕ × Entries → Bool
goes_before sort a b = is_before sort a.0 a.1 b.0 b.1

-- no document goes before one that it stands behind
abbrev pub IsInOrder : List SortKey → Documents → Type 0
IsInOrder sort [] = Unit {0}
IsInOrder sort (doc ∷ docs) = AllByRecursion (λ other. goes_before sort other doc ≡ false) docs × IsInOrder sort docs

-- Among these documents the limit chooses as it does among those of the contents that match.
pub record IsChoice (cursor : Cursor) (rows : Rows) (docs : Documents) : Type 0 where
  pub order : IsInOrder cursor.sort docs
  pub same : (id : List ℕ) (doc : Entries) →
      is_within cursor.limit (rank cursor docs id doc) ≡ is_within cursor.limit (rank cursor (matching cursor rows) id doc)
