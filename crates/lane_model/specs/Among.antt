-- Lists among others, by a number that each element has.
use Rattle.std.specs.Prelude.{ℕ, ◌<◌, List, [], ◌∷◌, All, Contains}

-- each element of the first list is one of the second
abbrev pub AreAmong : {X : Type 0} → List X → List X → Type 0
AreAmong xs ys = All (Contains ys) xs

-- each has a number below n
abbrev pub AllBelow : {X : Type 0} → (X → ℕ) → ℕ → List X → Type 0
AllBelow number n [] = Unit {0}
AllBelow number n (x ∷ xs) = (number x < n) × AllBelow number n xs
