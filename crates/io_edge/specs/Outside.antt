-- What one call takes from a source, and what one call adds to a sink; how often a source was read.
use Rattle.std.specs.Prelude.{◌≡◌, ℕ, ◌+◌, ◌<◌, ◌≤◌, ◌++◌, List, [], Option, Some, length, take, drop}

-- n bytes were taken off `old` into a buffer of the size `room`; none only at the end, or without room
pub record TakesNext (room n : ℕ) (old into : List ℕ) (rest : Option (List ℕ)) : Type 0 where
  pub bytes : take n into ≡ take n old
  pub left : rest ≡ Some (drop n old)
  pub within : n ≤ length old
  pub ended : n ≡ 0 → 0 < room → old ≡ []

-- where what a sink holds is known afterwards, it was known before, and these bytes were added
abbrev pub Grows : Option (List ℕ) → Option (List ℕ) → List ℕ → Type 0
Grows before after bytes =
    (now : List ℕ) → after ≡ Some now → (old : List ℕ) × (before ≡ Some old) × (old ++ bytes ≡ now)

-- where it is known afterwards how often a source was read, it was known before, and there was one more read
abbrev pub CountsRead : Option ℕ → Option ℕ → Type 0
CountsRead before after =
    (now : ℕ) → after ≡ Some now → (old : ℕ) × (before ≡ Some old) × (old + 1 ≡ now)

-- the same, and there were at most so many reads more
abbrev pub ReadsAtMost : ℕ → Option ℕ → Option ℕ → Type 0
ReadsAtMost most before after =
    (now : ℕ) → after ≡ Some now → (old : ℕ) × (before ≡ Some old) × (now ≤ old + most)
