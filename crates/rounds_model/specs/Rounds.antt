-- A round of phases. Each phase makes acts one after another, which it lists when it begins; one that isn't enabled then changes nothing.
use Rattle.std.specs.Prelude.{◌≡◌, ◌⊎◌, ℕ, List, [], ◌∷◌, Bool, true, false, not}
use Rattle.std.specs.List.{list_all}
use Rattle.rounds_model.specs.Tower.{Below}

module _ {W A : Type 0} (done : A → W → W) where
  -- the acts, one after another
  abbrev pub made : List A → W → W
  made [] w = w
  made (a ∷ acts) w = made acts (done a w)

  -- the phases, one after another
  abbrev pub through : List (W → List A) → W → W
  through [] w = w
  through (p ∷ ps) w = through ps (made (p w) w)

module _ {W A : Type 0} (can : W → A → Bool) where
  -- none of the acts is enabled
  abbrev pub none_of : List A → W → Bool
  none_of acts w = list_all (λ a. not (can w a)) acts

  -- none that any of the phases lists
  abbrev pub none_in : List (W → List A) → W → Bool
  none_in ps w = list_all (λ p. none_of (p w) w) ps

-- An act keeps P. It changes nothing where it isn't enabled, and else leads below.
pub record Acts {W A : Type 0} (P : W → Type 0) (can : W → A → Bool) (done : A → W → W) (ms : List (W → ℕ)) : Type 0 where
  pub keeps : (a : A) (w : W) → P w → P (done a w)
  pub goes : (a : A) (w : W) → P w → ((can w a ≡ false) × (done a w ≡ w)) ⊎ ((can w a ≡ true) × Below ms (done a w) w)
