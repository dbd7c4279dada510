-- Documents that are changed by several fields at once, alone and in contents.
use Rattle.std.specs.Prelude.{ℕ, List, option_map}
use Rattle.map_model.specs.Maps.{at, set}
use Rattle.map_model.specs.Differences.{with_fields, without}
use Rattle.value_model.specs.Val.{Entries, object, fields_of}
use Rattle.value_model.specs.Size.{size}
use Rattle.value_model.specs.Order.{text_cmp}
use Rattle.ejson_value.specs.declared.key.Key.{Key}
use Rattle.ejson_value.specs.Key.{key_cmp}
use Rattle.ejson_value.specs.Measure.{capped}
use Rattle.ejson_value.specs.Rows.{Rows}

-- the document without the cleared names, and then with these fields
abbrev pub edited : Entries → Entries → List (List ℕ) → Entries
edited doc fields cleared = with_fields text_cmp (without text_cmp doc cleared) fields

abbrev pub bytes_in : Entries → ℕ
bytes_in doc = capped (size (object (fields_of doc)))

-- how many bytes the document has, and how many once it is changed so
abbrev pub bytes_edited : Entries → List (List ℕ) → Entries → ℕ × ℕ
bytes_edited fields cleared doc = (bytes_in doc, bytes_in (edited doc fields cleared))

-- the rows with the document at the key changed so, where there is one
abbrev pub with_edit : Rows → Key → Entries → List (List ℕ) → Rows
with_edit rows key fields cleared = set key_cmp rows key (option_map (λ doc. edited doc fields cleared) (at key_cmp rows key))
