-- What a journal that fits says of its session's subscriptions and calls: each place is one of the history, and a call that runs blocks or has let
-- the next message be handled.
use Rattle.std.specs.Prelude.{◌≡◌, ◌⊎◌, ℕ, ◌≤◌, ◌<◌, List, [], ◌∷◌, true, Some, IfSome}
use Rattle.world_model.specs.session_model.Subscriptions.{Live}
use Rattle.world_model.specs.session_model.Methods.{running, is_blocked_by, phase_at}
use Rattle.world_model.specs.session_model.State.{State}
use Rattle.world_model.specs.session_model.Moments.{Moment}
use Rattle.world_model.specs.session_model.Fits.{HasUnblocked}

-- ---- calls that run

abbrev pub Ran : List Moment → State → Type 0
Ran C st = (k : ℕ) → phase_at k st.methods ≡ Some running → (is_blocked_by k st.blocking ≡ true) ⊎ HasUnblocked C k

-- ---- places of subscriptions

abbrev pub IsWithin : ℕ → ℕ → Live → Type 0
IsWithin n reach l = (l.floor ≤ reach) × IfSome l.cursor (λ cursor. cursor < n)

abbrev pub AreWithin : ℕ → ℕ → List Live → Type 0
AreWithin n reach [] = Unit {0}
AreWithin n reach (l ∷ ls) = IsWithin n reach l × AreWithin n reach ls

pub record HasPlaces (n : ℕ) (st : State) : Type 0 where
  pub reach : st.reach < n
  pub lives : AreWithin n st.reach st.subs
