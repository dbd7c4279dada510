-- A session at rest, and what is tested of it.
use Rattle.std.specs.Prelude.{◌≡◌, ◌==◌, ◌&&◌, ℕ, List, [], ◌∷◌, length, Bool, true, false, Option, None, Some}
use Rattle.session_model.specs.Subscriptions.{Live, is_open}
use Rattle.session_model.specs.Methods.{Phase, refused, told, Method}
use Rattle.session_state.specs.Work.{running_from}
use Rattle.session_laws.specs.Session.{ASession}
use Rattle.shared_session.specs.Held.{AHeld}

-- the call was refused, or has finished and was told `updated`
abbrev pub IsDone : Phase → Type 0
IsDone refused = Unit {0}
IsDone (told place) = Unit {0}
IsDone p = ⊥

abbrev pub AreDone : List Method → Type 0
AreDone [] = Unit {0}
AreDone (m ∷ ms) = IsDone m.phase × AreDone ms

-- Each message was handled and none of its calls blocks. Each call was refused, or has finished and was told `updated`.
-- Each live subscription is loaded, and shows all that the session
-- knows of the history. Each text was taken out to be sent
pub record IsAtRest (h : AHeld) : Type 0 where
  pub handled : h.session.carried.waiting ≡ []
  pub free : h.session.carried.own.blocking ≡ None
  pub done : AreDone h.session.carried.own.methods
  pub shown : is_open (length h.list) h.session.carried.own.subs ≡ true
  pub sent : h.session.carried.outbox ≡ []

-- each subscription shows this place
abbrev pub is_at : ℕ → Option ℕ → Bool
is_at place None = false
is_at place (Some cursor) = cursor == place

abbrev pub are_at : ℕ → List Live → Bool
are_at place [] = true
are_at place (l ∷ ls) = is_at place l.cursor && are_at place ls

-- no message waits, no call blocks, none runs, and each live subscription shows this place
pub record IsIdle (place : ℕ) (s : ASession) : Type 0 where
  pub handled : s.carried.waiting ≡ []
  pub free : s.carried.own.blocking ≡ None
  pub ended : running_from 0 s.carried.own.methods ≡ []
  pub shown : are_at place s.carried.own.subs ≡ true
