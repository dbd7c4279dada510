-- From the `updated` of a call on, no subscription shows less than what the call wrote: one that was live then is as far, and one that is opened
-- later has a floor as high.
use Rattle.std.specs.Prelude.{◌≡◌, ℕ, ◌≤◌, List, [], ◌∷◌, false}
use Rattle.session_model.specs.Subscriptions.{Live, is_open}
use Rattle.session_model.specs.Methods.{Phase, finished, told, Method}
use Rattle.session_model.specs.State.{State}
use Rattle.session_model.specs.CaughtUp.{AreFar}

-- what is kept besides: no call finished beyond what a subscription that is opened has as its floor
abbrev pub IsHeld : ℕ → List Live → Phase → Type 0
IsHeld reach ls (finished place) = place ≤ reach
IsHeld reach ls (told place) = (place ≤ reach) × AreFar place ls
IsHeld reach ls p = Unit {0}

abbrev pub AreHeld : ℕ → List Live → List Method → Type 0
AreHeld reach ls [] = Unit {0}
AreHeld reach ls (m ∷ ms) = IsHeld reach ls m.phase × AreHeld reach ls ms

abbrev pub Keeps : State → Type 0
Keeps st = AreHeld st.reach st.subs st.methods

-- Each item leaves no finished call whose fence is open.
abbrev pub IsShut : List Live → Phase → Type 0
IsShut ls (finished place) = is_open place ls ≡ false
IsShut ls p = Unit {0}

abbrev pub AreShut : List Live → List Method → Type 0
AreShut ls [] = Unit {0}
AreShut ls (m ∷ ms) = IsShut ls m.phase × AreShut ls ms
