-- Changes and publications as the laws of maps speak of them.
use Rattle.std.specs.Prelude.{List, Option, map, Bool, ◌&&◌, is_none}
use Rattle.std.specs.List.{list_any}
use Rattle.std.specs.Ordering.{eq_by_cmp}
use Rattle.map_model.specs.Changes as model
use Rattle.value_model.specs.Val.{Entries}
use Rattle.ejson_value.specs.declared.key.Key.{Key}
use Rattle.ejson_value.specs.Key.{key_cmp}
use Rattle.ejson_value.specs.declared.change.Change.{Change}
use Rattle.ejson_value.specs.declared.change.Publish.{Publish}

abbrev pub change_of : Change → model.Change Key Entries
change_of c = record { key = c.key; before = c.before; after = c.after }

abbrev pub changes_of : List Change → List (model.Change Key Entries)
changes_of cs = map change_of cs

-- each publication as a key and what is published there
abbrev pub news_of : List Publish → List (Key × Option Entries)
news_of ps = map (λ p. (p.key, p.new)) ps

-- whether one of the changes says that there was no document at the key
abbrev pub has_new : Key → List Change → Bool
has_new key cs = list_any (λ c. eq_by_cmp key_cmp key c.key && is_none c.before) cs
