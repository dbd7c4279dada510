-- What is saved of documents, and the changes that restore it.
use Rattle.std.specs.Prelude.{List, map, Option}
use Rattle.map_model.specs.Maps.{at}
use Rattle.value_model.specs.Val.{Entries}
use Rattle.ejson_value.specs.declared.key.Key.{Key}
use Rattle.ejson_value.specs.declared.change.Change.{Change}
use Rattle.ejson_value.specs.Key.{key_cmp}
use Rattle.ejson_value.specs.Rows.{Rows}
use Rattle.minimongo.specs.declared.save.Save.{Save}

-- what stands at each of the keys
abbrev pub saves_at : Rows → List Key → List (Key × Option Entries)
saves_at rows keys = map (λ k. (k, at key_cmp rows k)) keys

-- the change that restores what was saved
abbrev pub restored : Rows → Save → Change
restored rows save = record { key = save.key; before = at key_cmp rows save.key; after = save.doc }
