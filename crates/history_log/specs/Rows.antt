-- The documents of a store as they are printed, some of them by each thread.
use Rattle.std.specs.Prelude.{ℕ, List, map}
use Rattle.ejson_value.specs.Rows.{Rows}
use Rattle.history_model.specs.Lines.{doc_value, line_of}
use Rattle.history_log.specs.declared.rows.Row.{Row}

-- the documents with their keys
abbrev pub pairs_in : List Row → Rows
pairs_in rows = map (λ r. (r.key.now, r.doc.now)) rows

-- a line for each document
abbrev pub document_lines : Rows → List (List ℕ)
document_lines rows = map line_of (map doc_value rows)
