-- How deep a document is.
use Rattle.std.proofs.Common.{arith, inl, inr, ◌≡◌, ℕ, ◌≤◌, ◌<◌, true, false, ap, sym, ◌∙◌}
use Rattle.std.specs.Prelude.{◌⊎◌, nat_le}
use Rattle.std.proofs.Math.Nat.{min-eq_left, le-min}
use Rattle.std.proofs.lemmas.Bool.{lt-leb}
use Rattle.std.proofs.lemmas.Bool.Decides.{leb_tells}
use Rattle.ejson_value.specs.Measure.{capped}
use Rattle.ejson_codec.specs.Reading.{max_levels}

capped_by : (n : ℕ) → ((nat_le n max_levels ≡ true) × (n ≤ max_levels)) ⊎ ((nat_le n max_levels ≡ false) × (max_levels < n)) → nat_le (capped n) max_levels ≡ nat_le n max_levels
capped_by n (inl h) = ap (λ k. nat_le k max_levels) (min-eq_left (omega (arith, h.1)))
capped_by n (inr h) = lt-leb (capped n) max_levels (le-min h.1 (omega arith)) ∙ sym h.0

-- a capped depth is within the levels where the depth is
pub capped_fits : (n m : ℕ) → m ≡ capped n → nat_le m max_levels ≡ nat_le n max_levels
capped_fits n m is = ap (λ k. nat_le k max_levels) is ∙ capped_by n (leb_tells n max_levels)
