-- The keys that are listed under each simulation.
use Rattle.std.specs.Prelude.{◌≡◌, ◌≢◌, ℕ, Bool, true, List, [], unwrap_or, IfSome}
use Rattle.std.specs.List.{list_any}
use Rattle.std.specs.Ordering.{nat_cmp, eq_by_cmp}
use Rattle.map_model.specs.Maps.{at, IsSorted}
use Rattle.ejson_value.specs.declared.key.Key.{Key}
use Rattle.ejson_value.specs.Key.{key_cmp}
use Rattle.minimongo.specs.Originals.{Original, Originals, is_holder}

abbrev pub Lists : Type 0
Lists = List (ℕ × List Key)

abbrev pub is_key_among : List Key → Key → Bool
is_key_among keys k = list_any (eq_by_cmp key_cmp k) keys

-- whether the key is listed under the simulation
abbrev pub is_listed : Lists → ℕ → Key → Bool
is_listed lists n k = is_key_among (unwrap_or (at nat_cmp lists n) []) k

-- or under one of several
abbrev pub is_listed_by : Lists → List ℕ → Key → Bool
is_listed_by lists ns k = list_any (λ n. is_listed lists n k) ns

-- somebody holds each original, and each key is listed under its holders
pub record IsWhole (originals : Originals) (lists : Lists) : Type 0 where
  pub by_key : IsSorted key_cmp originals
  pub held : (k : Key) → IfSome (at key_cmp originals k) (λ (o : Original). o.holders ≢ [])
  pub listed : (k : Key) (n : ℕ) → is_holder originals n k ≡ true → is_listed lists n k ≡ true
