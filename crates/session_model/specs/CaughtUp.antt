-- From the `updated` of a call on, what the call wrote is shown (Meteor's DDP.md, "Remote procedure calls": `updated` comes once the method's writes
-- are reflected in the data messages).
use Rattle.std.specs.Prelude.{ℕ, ◌≤◌, List, [], ◌∷◌, Option, Some, None}
use Rattle.session_model.specs.Subscriptions.{Live}
use Rattle.session_model.specs.Methods.{Phase, told, Method}
use Rattle.session_model.specs.State.{State}

-- how far a subscription shows the history, or will at least once it is loaded
abbrev pub far : Option ℕ → ℕ → ℕ
far None floor = floor
far (Some cursor) floor = cursor

-- each live subscription is as far as this place
abbrev pub AreFar : ℕ → List Live → Type 0
AreFar place [] = Unit {0}
AreFar place (l ∷ ls) = (place ≤ far l.cursor l.floor) × AreFar place ls

-- a call that is told `updated` had ended by what each live subscription shows
abbrev pub IsShown : List Live → Phase → Type 0
IsShown ls (told place) = AreFar place ls
IsShown ls p = Unit {0}

abbrev pub AreShown : List Live → List Method → Type 0
AreShown ls [] = Unit {0}
AreShown ls (m ∷ ms) = IsShown ls m.phase × AreShown ls ms

abbrev pub AreCaughtUp : State → Type 0
AreCaughtUp st = AreShown st.subs st.methods
