-- The lines that a command writes: values, each as its EJSON text with a line feed behind it.
use Rattle.std.specs.Prelude.{ℕ, pos, List, [], ◌∷◌, ◌++◌, flat_map, Option, Some, None, codes}
use Rattle.value_model.specs.Val.{Val, int}
use Rattle.serde_json.specs.Written.{compact_text}
use Rattle.ejson_codec.specs.Written.{written}
pub use Rattle.ejson_codec.specs.Lines.{worded as line}
use Rattle.checking.specs.Input.{line_feed}

-- a line as it is written
abbrev pub value_bytes : Val → List ℕ
value_bytes v = compact_text (written v) ++ line_feed ∷ []

abbrev pub bytes_of : List Val → List ℕ
bytes_of vs = flat_map value_bytes vs

-- the line that names the first line of an input that isn't of the grammar
abbrev pub bad : ℕ → Val
bad number = line (codes "bad") (int (pos number) ∷ [])

abbrev pub bad_lines : Option ℕ → List Val
bad_lines None = []
bad_lines (Some number) = bad number ∷ []
