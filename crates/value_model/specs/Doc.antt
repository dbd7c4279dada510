-- Documents: finite maps from names to values, as their pairs by rising name.
use Rattle.std.specs.Prelude.{ℕ, List, Option}
use Rattle.std.specs.Map.{lookup, remove_entry}
use Rattle.std.specs.BTreeMap.{is_at, insert_entry}
use Rattle.value_model.specs.Val.{Val, Entries}
use Rattle.value_model.specs.Order.{text_cmp}

-- the field's value
abbrev pub get : Entries → List ℕ → Option Val
get es name = lookup (is_at (text_cmp name)) es

-- the document with this value as that field
abbrev pub put : Entries → List ℕ → Val → Entries
put es name v = insert_entry text_cmp es name v

-- the document without that field
abbrev pub remove : Entries → List ℕ → Entries
remove es name = remove_entry (is_at (text_cmp name)) es
