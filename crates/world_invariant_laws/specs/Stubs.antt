-- The stub of a method changes no document but those that it touches.
use Rattle.std.specs.Prelude.{List, Bool}
use Rattle.std.specs.List.{list_any}
use Rattle.std.specs.Ordering.{eq_by_cmp}
use Rattle.ejson_value.specs.declared.key.Key.{Key}
use Rattle.ejson_value.specs.Key.{key_cmp}

abbrev pub has : Key → List Key → Bool
has q keys = list_any (eq_by_cmp key_cmp q) keys
