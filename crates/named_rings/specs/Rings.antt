-- Rings by number, from 1.
use Rattle.std.specs.Prelude.{◌≡◌, ℕ, ◌+◌, ◌-◌, List, [], ◌∷◌, map}
use Rattle.duct.specs.Rings.{Way}
use Rattle.named_rings.specs.Ways.{way_at}
use Rattle.named_rings.specs.declared.pairs.Pair.{Pair}

-- the ways of the rings of a list, by number
abbrev pub client_ways : List Pair → ℕ → Way
client_ways ps n = way_at (map (λ (p : Pair). p.client.out) ps) (n - 1)

abbrev pub session_ways : List Pair → ℕ → Way
session_ways ps n = way_at (map (λ (p : Pair). p.client.inn) ps) (n - 1)

-- these are the rings of the numbers that follow n
abbrev pub AreRings : (ℕ → Way) → (ℕ → Way) → ℕ → List Pair → Type 0
AreRings there back n [] = Unit {0}
AreRings there back n (p ∷ ps) = (p.client.out ≡ there (n + 1)) × (p.client.inn ≡ back (n + 1)) × AreRings there back (n + 1) ps
