-- The keys that are listed under each subscription.
use Rattle.std.specs.Prelude.{ℕ, Bool, List, [], map, unwrap_or}
use Rattle.std.specs.List.{list_any}
use Rattle.std.specs.Ordering.{nat_cmp, eq_by_cmp}
use Rattle.std.specs.BTreeSet.{BTreeSet}
use Rattle.map_model.specs.Maps.{at}
use Rattle.ejson_value.specs.declared.key.Key.{Key}
use Rattle.ejson_value.specs.Key.{key_cmp}

-- by subscription, its keys
abbrev pub Lists : Type 0
Lists = List (ℕ × List Key)

abbrev pub lists_of : List (ℕ × BTreeSet Key) → Lists
lists_of entries = map (λ e. (e.0, e.1.keys)) entries

-- whether the key is listed under the subscription
abbrev pub is_listed : Lists → ℕ → Key → Bool
is_listed lists s k = list_any (eq_by_cmp key_cmp k) (unwrap_or (at nat_cmp lists s) [])
