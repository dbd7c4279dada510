-- The keys of the documents that a program touches, each once.
use Rattle.std.specs.Prelude.{List, [], ◌∷◌}
use Rattle.std.specs.BTreeSet.{insert_key}
use Rattle.ejson_value.specs.declared.key.Key.{Key}
use Rattle.ejson_value.specs.Key.{key_cmp}

-- the keys with others put among them
abbrev pub keys_put : List Key → List Key → List Key
keys_put keys [] = keys
keys_put keys (key ∷ more) = keys_put (insert_key key_cmp keys key) more

-- each of the keys once, rising
abbrev pub each_once : List Key → List Key
each_once keys = keys_put [] keys
