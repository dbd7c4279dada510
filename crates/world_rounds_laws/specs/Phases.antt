-- What the phases of a session's calls say: a call that was refused is refused in the journal, and the run of one that has finished had ended at some place.
use Rattle.std.specs.Prelude.{◌≡◌, ℕ, suc, List, [], ◌∷◌, true}
use Rattle.world_invariant_laws.specs.session_model.Items.{Item}
use Rattle.world_invariant_laws.specs.session_model.Methods.{Phase, running, refused, finished, told, Method}
use Rattle.world_invariant_laws.specs.session_model.Moments.{Moment}
use Rattle.world_invariant_laws.specs.session_model.Fits.{HasEnded}
use Rattle.world_invariant_laws.specs.session_model.LooksBack.{is_refused_in}

-- ---- something of each call, by its number and its phase

abbrev pub Are : (ℕ → Phase → Type 0) → List Method → Type 0
Are P [] = Unit {0}
Are P (m ∷ ms) = P 0 m.phase × Are (λ k p. P (suc k) p) ms

-- ---- what a phase says of its call

-- the run of the call had ended at some place
abbrev pub IsOver : List Moment → ℕ → Type 0
IsOver C k = (place : ℕ) × HasEnded C place k

abbrev pub Says : List Moment → List Item → ℕ → Phase → Type 0
Says C items k running = Unit {0}
Says C items k refused = is_refused_in items k ≡ true
Says C items k (finished place) = IsOver C k
Says C items k (told place) = IsOver C k
