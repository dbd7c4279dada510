-- A key above all others.
use Rattle.std.specs.Prelude.{◌≡◌, List}
use Rattle.std.specs.List.{AllByRecursion}
use Rattle.std.specs.declared.cmp.Ordering.{Ordering}
use Rattle.std.specs.declared.cmp.Ordering.TheVariants.{Greater}

-- each of the keys is below k
abbrev pub IsAbove : {K : Type 0} → (K → K → Ordering) → K → List K → Type 0
IsAbove R k ks = AllByRecursion (λ q. R k q ≡ Greater) ks
