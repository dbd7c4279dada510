-- Calls that are to fail, by their numbers, counted from 1.
use Rattle.std.specs.Prelude.{ℕ, ◌+◌, ◌==◌, Bool, List}
use Rattle.std.specs.List.{list_any}

-- whether the call after so many is to fail
abbrev pub fails_after : List ℕ → ℕ → Bool
fails_after failing calls = list_any (λ number. number == calls + 1) failing
