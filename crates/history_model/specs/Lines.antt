-- The lines that are printed of a store: each the EJSON text of a list.
use Rattle.std.specs.Prelude.{ℕ, pos, List, [], ◌∷◌, ◌++◌, length, map, codes, decimal}
use Rattle.value_model.specs.Val.{Val, int, text, list, vals_of}
pub use Rattle.ejson_codec.specs.Lines.{worded, doc_line as doc_value, line_text as line_of}
use Rattle.ejson_value.specs.View.{view}
use Rattle.ejson_value.specs.Rows.{Rows}
use Rattle.history_model.specs.declared.entry.Entry.{Entry}
use Rattle.history_model.specs.declared.entry.Entry.TheVariants as entry

abbrev pub number : ℕ → Val
number n = int (pos n)

-- the text of a session: `S` and its number
abbrev pub session_text : ℕ → List ℕ
session_text session = codes "S" ++ decimal session

abbrev pub entry_value : Entry → Val
entry_value (entry.Begin session k method params seed) =
    worded (codes "begin") (text (session_text session) ∷ number k ∷ text method ∷ list (vals_of params) ∷ view seed ∷ [])
entry_value (entry.Step session k) = worded (codes "step") (text (session_text session) ∷ number k ∷ [])
entry_value (entry.Admin op) = worded (codes "admin") (list (vals_of op) ∷ [])

-- the documents by collection and id, behind the length of the history
abbrev pub store_lines : ℕ → Rows → List (List ℕ)
store_lines entries rows = map line_of (worded (codes "store") (number entries ∷ []) ∷ map doc_value rows)

-- the entries in order, behind their number
abbrev pub history_lines : List Entry → List (List ℕ)
history_lines history = map line_of (worded (codes "history") (number (length history) ∷ []) ∷ map entry_value history)
