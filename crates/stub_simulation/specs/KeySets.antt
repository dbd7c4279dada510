-- The keys of a set, whichever way it holds them.
use Rattle.std.specs.Prelude.{List}
use Rattle.ejson_value.specs.declared.key.Key.{Key}
use Rattle.stub_simulation.specs.declared.key_set.Held.{Held}
use Rattle.stub_simulation.specs.declared.key_set.Held.TheVariants as held

abbrev pub keys_held : Held → List Key
keys_held (held.Row row) = row.items
keys_held (held.Tree tree) = tree.keys
