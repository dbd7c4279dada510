-- How serving ends: what was sent, that the session rests, and what each end tells.
use Rattle.std.specs.Prelude.{◌≡◌, ◌⊎◌, ◌<◌, ℕ, List, true, false, None, Some, is_some, length, slice_index}
use mathlib.Core.List.{IsPrefix}
use Rattle.app_model.specs.App.{App}
use Rattle.program_steps.specs.declared.outcome.Status.{Status}
use Rattle.history_model.specs.declared.entry.Entry.{Entry}
use Rattle.history_model.specs.History.{held, status_in}
use Rattle.world_model.specs.Store.{programs}
use Rattle.session_state.specs.Work.{running_from}
use Rattle.session_laws.specs.Session.{new_session, is_full}
use Rattle.shared_store.specs.Callers.{ACaller}
use Rattle.shared_session.specs.Held.{AHeld, StandsFor}
use Rattle.duct.specs.Calls.{Call, has_refusal}
use Rattle.server_connection.specs.declared.desk.Desk.{Desk}
use Rattle.server_connection.specs.declared.ended.Ended.{Ended}
use Rattle.server_connection.specs.declared.ended.Ended.TheVariants as ended
use Rattle.server_connection.specs.Serving.{Serving, tells_close}
use Rattle.server_connection.specs.AtRest.{IsAtRest}
use Rattle.server_connection.specs.Looks.{IsForeign}

-- it ends of itself: the peer has closed, or speaks another version
abbrev pub Leaves : Ended → Type 0
Leaves ended.PeerClosed = Unit {0}
Leaves ended.VersionRefused = Unit {0}
Leaves end = ⊥

-- ---- the calls of the link

module _ {L : Type 0} (steps : L → Call → L → Type 0) (faults : L → ℕ) where
  -- The link was served. Where it ends of itself, and no text was handed back, no text is held or waits to be sent, and the session is at rest
  pub record Serves (first link : L) (h : AHeld) (end : Ended) : Type 0 where
    pub desk : Desk
    pub serving : Serving StandsFor IsAtRest steps faults first link h desk
    pub rest : Leaves end → has_refusal serving.calls ≡ false → (desk.held ≡ None) × (desk.back ≡ None) × IsAtRest h
    pub closed : end ≡ ended.PeerClosed → tells_close serving.calls ≡ true
    pub fault : end ≡ ended.LinkFault → faults first < faults link

-- ---- causes

-- what else an end tells
abbrev pub IsCause : ACaller → List Entry → AHeld → Ended → Type 0
IsCause caller list h ended.VersionRefused = h.session.carried.own.failed ≡ true
IsCause caller list h ended.JournalFull = is_full h.session ≡ true
IsCause caller list h (ended.Foreign last) = IsForeign last caller list
IsCause caller list h end = Unit {0}

-- ---- runs

-- the call has a run in the history, which has ended
pub record HasEnded (app : App) (list : List Entry) (number k : ℕ) : Type 0 where
  pub status : Status
  pub there : status_in (held (programs app) list) number k ≡ Some status
  pub ended : is_some status.ended ≡ true

-- the call has no run in the history, or one that has ended
abbrev pub IsOver : App → List Entry → ℕ → ℕ → Type 0
IsOver app list number k = (status_in (held (programs app) list) number k ≡ None) ⊎ HasEnded app list number k

abbrev pub AreOver : App → List Entry → ℕ → List ℕ → Type 0
AreOver app list number ks = (place : ℕ) → place < length ks → IsOver app list number (slice_index ks place)

-- each run that the session's calls have is over, unless memory was refused
abbrev pub RunsAreOver : App → List Entry → AHeld → Ended → Type 0
RunsAreOver app list h ended.Memory = Unit {0}
RunsAreOver app list h end = AreOver app list h.session.carried.number (running_from 0 h.session.carried.own.methods)

-- ---- pass and caller

-- the history goes on, and so does what the caller counts
pub record GoesOn (caller caller' : ACaller) (pass pass' : List Entry) : Type 0 where
  pub grows : IsPrefix pass pass'
  pub number : caller'.number ≡ caller.number
  pub list : IsPrefix caller.list caller'.list

-- the session has taken nothing; the caller has its number, which is not 0, and has made nothing
pub record IsNew (app : App) (caller : ACaller) (h : AHeld) : Type 0 where
  pub new : h.session ≡ new_session app caller.number
  pub some : 0 < caller.number
  pub made : caller.made ≡ 0
