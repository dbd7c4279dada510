-- A step that is made again and again until nothing is left to do. Several measures, the least first, say how far that is: a step lowers one of them
-- and leaves all later ones, while it may raise
-- those before it.
use Rattle.std.specs.Prelude.{◌≡◌, ◌⊎◌, ℕ, zero, suc, ◌<◌, List, [], ◌∷◌, Bool, true}

module _ {W : Type 0} where
  -- the step, this many times
  unfoldable pub often : ℕ → (W → W) → W → W
  often zero f w = w
  often (suc n) f w = f (often n f w)

  -- the step, more often than the measure says
  abbrev pub raised : (W → W) → (W → ℕ) → W → W
  raised f m w = often (suc (m w)) f w

  -- the step within rounds of the first measure, these within rounds of the next, and so on
  abbrev pub tower : (W → W) → List (W → ℕ) → W → W
  tower f [] = f
  tower f (m ∷ ms) = tower (raised f m) ms

  -- the measures are the same in both
  abbrev pub Same : List (W → ℕ) → W → W → Type 0
  Same [] v w = Unit {0}
  Same (m ∷ ms) v w = (m v ≡ m w) × Same ms v w

  -- v is below w: one measure is less, and all later ones are the same
  abbrev pub Below : List (W → ℕ) → W → W → Type 0
  Below [] v w = ⊥
  Below (m ∷ ms) v w = Below ms v w ⊎ (Same ms v w × (m v < m w))

-- What keeps P, leaves what is stuck, and leads from anything else to what is stuck or below it.
pub record Leads {W : Type 0} (P : W → Type 0) (stuck : W → Bool) (ms : List (W → ℕ)) (f : W → W) : Type 0 where
  pub keeps : (w : W) → P w → P (f w)
  pub stays : (w : W) → P w → stuck w ≡ true → f w ≡ w
  pub goes : (w : W) → P w → (stuck (f w) ≡ true) ⊎ Below ms (f w) w
