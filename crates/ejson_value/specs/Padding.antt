-- Bytes that are filled up with zeros.
use Rattle.std.specs.Prelude.{◌≡◌, ◌≤◌, ℕ, List, slice_index}

-- from place n on there are only zeros
abbrev pub HasZerosFrom : ℕ → List ℕ → Type 0
HasZerosFrom n xs = (k : ℕ) → n ≤ k → slice_index xs k ≡ 0
