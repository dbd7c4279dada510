-- Lines: the EJSON texts of lists, whose first element is the word that says what the line is.
use Rattle.std.specs.Prelude.{ℕ, List, [], ◌∷◌, codes}
use Rattle.value_model.specs.Val.{Val, text, list, object, vals_of, fields_of, Entries}
use Rattle.serde_json.specs.Written.{compact_text}
use Rattle.ejson_value.specs.declared.key.Key.{Key}
use Rattle.ejson_codec.specs.Written.{written}

abbrev pub worded : List ℕ → List Val → Val
worded word rest = list (vals_of (text word ∷ rest))

-- a document with its key
abbrev pub doc_line : Key × Entries → Val
doc_line row = worded (codes "doc") (text row.0.collection ∷ text row.0.id ∷ object (fields_of row.1) ∷ [])

abbrev pub line_text : Val → List ℕ
line_text v = compact_text (written v)
