-- A finite map is the list of its entries, its keys strictly rising in the order R.
--     at R m k, set R m k w      what m has at k;  m with w at k, where None takes the key out
--     IsSorted R m      the keys of m strictly rise
--     union R a b      the entries of both, those of a where both have the key
--     collect f ks      the keys at which f gives a value, with that value
--     filter_map_entries f m      the keys of m at which f gives a value for what m has there, with that value
use Rattle.std.specs.Prelude.{List, [], ◌∷◌, Option, Some, None}
use Rattle.std.specs.Cmp.{IsTotalOrder}
use Rattle.std.specs.FinMap.{IsAntisymmetric}
use Rattle.std.specs.declared.cmp.Ordering.{Ordering}
use Rattle.std.specs.Map.{keys_of, lookup, remove_entry}
use Rattle.std.specs.BTreeMap.{is_at, insert_entry}
use Rattle.std.specs.List.Sorted.{IsStrictlySortedBy}

-- what the map has at the key k
abbrev pub at : {K X : Type 0} → (K → K → Ordering) → List (K × X) → K → Option X
at R m k = lookup (is_at (R k)) m

-- the map with w at the key k, where None takes the key out
abbrev pub set : {K X : Type 0} → (K → K → Ordering) → List (K × X) → K → Option X → List (K × X)
set R m k None = remove_entry (is_at (R k)) m
set R m k (Some v) = insert_entry R m k v

-- the keys strictly rise
abbrev pub IsSorted : {K X : Type 0} → (K → K → Ordering) → List (K × X) → Type 0
IsSorted R m = IsStrictlySortedBy R (keys_of m)

-- the keys are totally ordered, and only equal keys tie
pub record IsKeyOrder {K : Type 0} (R : K → K → Ordering) : Type 0 where
  pub total : IsTotalOrder R
  pub exact : IsAntisymmetric R

-- the entries of both, and those of a where both have the key
abbrev pub union : {K X : Type 0} → (K → K → Ordering) → List (K × X) → List (K × X) → List (K × X)
union R [] b = b
union R (e ∷ a) b = insert_entry R (union R a b) e.0 e.1

abbrev pub keyed : {K X : Type 0} → K → Option X → List (K × X) → List (K × X)
keyed k None rest = rest
keyed k (Some v) rest = (k, v) ∷ rest

-- the keys at which f gives a value, with that value
abbrev pub collect : {K X : Type 0} → (K → Option X) → List K → List (K × X)
collect f [] = []
collect f (k ∷ ks) = keyed k (f k) (collect f ks)

-- the keys of the map at which f gives a value for what the map has there, with that value
abbrev pub filter_map_entries : {K X Y : Type 0} → (K → X → Option Y) → List (K × X) → List (K × Y)
filter_map_entries f [] = []
filter_map_entries f (e ∷ m) = keyed e.0 (f e.0 e.1) (filter_map_entries f m)
