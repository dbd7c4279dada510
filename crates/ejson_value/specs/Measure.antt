-- Counts that stop at the greatest u64.
use Rattle.std.specs.Prelude.{◌≡◌, ℕ, ◌-◌, ◌^◌, ◌<◌, min}

abbrev pub capped : ℕ → ℕ
capped n = min n (2 ^ 64 - 1)

-- a count that may have stopped, and so many as it counts
abbrev pub Counts : ℕ → ℕ → Type 0
Counts count n = count < 2 ^ 64 - 1 → count ≡ n
