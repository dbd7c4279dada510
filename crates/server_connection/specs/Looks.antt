-- A connection's session beside the store: what is kept of it, and what a look at the store leaves.
use Rattle.std.specs.Prelude.{◌≡◌, ℕ, ◌<◌, ◌≤◌, ◌+◌, ◌==◌, ◌&&◌, nat_lt, List, [], ◌∷◌, length, Bool, true, false, None, Result, Ok, Err, ◌⊎◌, IfSome}
use Rattle.std.specs.List.{list_any}
use mathlib.Core.List.{IsPrefix}
use Rattle.app_model.specs.App.{App}
use Rattle.history_model.specs.declared.entry.Entry.{Entry}
use Rattle.history_model.specs.declared.entry.Entry.TheVariants as entry
use Rattle.history_model.specs.History.{begins}
use Rattle.session_laws.specs.declared.fault.EventFault.{EventFault}
use Rattle.session_laws.specs.declared.fault.EventFault.TheVariants as fault
use Rattle.session_laws.specs.Session.{ASession, is_full}
use Rattle.session_laws.specs.Events.{Outcome}
use Rattle.shared_store.specs.Callers.{ACaller}
use Rattle.shared_store.specs.Counting.{one, made_by}
use Rattle.shared_session.specs.Held.{AHeld, Stands, StandsFor}
use Rattle.session_model.specs.Methods.{Blocking}
use Rattle.shared_session.specs.Standing.{HadNoRoom}
use Rattle.shared_session.specs.Events.{Keeps, Meets}
use Rattle.server_connection.specs.declared.desk.Desk.{Desk}
use Rattle.server_connection.specs.declared.ended.Ended.{Ended}
use Rattle.server_connection.specs.declared.ended.Ended.TheVariants as ended
use Rattle.server_connection.specs.AtRest.{IsAtRest}

-- ---- a session goes on

-- it is of the same application and has the same number, is as open as before, and has the calls that it had, or more
pub record IsStill (old new : ASession) : Type 0 where
  pub app : new.carried.app ≡ old.carried.app
  pub number : new.carried.number ≡ old.carried.number
  pub dropped : new.dropped ≡ old.dropped
  pub calls : length old.carried.own.methods ≤ length new.carried.own.methods

-- nothing came of the store, and the session stands for some texts if it did
pub record Stays (old new : AHeld) : Type 0 where
  pub still : IsStill old.session new.session
  pub list : new.list ≡ old.list
  pub stands : Stands old → Stands new

-- something came of the store, of which this was known
pub record Sees (known : List Entry) (old new : AHeld) : Type 0 where
  pub still : IsStill old.session new.session
  pub meets : Meets known old new
  pub keeps : Keeps old new

-- ---- the session's calls in the history

-- how many of its calls with numbers below `most` the list begins
abbrev pub is_below : ℕ → ℕ → Entry → Bool
is_below number most (entry.Begin session k method params seed) = ((session == number) && nat_lt 0 number) && nat_lt k most
is_below number most e = false

abbrev pub begun_below : ℕ → ℕ → List Entry → ℕ
begun_below number most [] = 0
begun_below number most (e ∷ es) = one (is_below number most e) + begun_below number most es

-- the list begins the session's call `last`, and more of its calls than the caller made
pub record IsForeign (last : ℕ) (caller : ACaller) (list : List Entry) : Type 0 where
  pub begun : list_any (begins (caller.number, last)) list ≡ true
  pub more : caller.made < made_by caller.number list

-- the history of the list has no room for the session's call k, where that one blocks
abbrev pub HadNoRoomFor : App → List Entry → ℕ → ASession → Type 0
HadNoRoomFor app list k s = IfSome s.carried.own.blocking (λ (call : Blocking). call.k ≡ k → HadNoRoom app s.carried.number list (length list) k call)

-- ---- what is kept

-- The session is not closed, of the store's application, and has the caller's number. It knows no more of the history than the pass.
-- The list has each call that the caller made, which is one of the session's
pub record IsServed (app : App) (caller : ACaller) (pass : List Entry) (h : AHeld) : Type 0 where
  pub of_app : h.session.carried.app ≡ app
  pub number : h.session.carried.number ≡ caller.number
  pub some : 0 < caller.number
  pub alive : h.session.dropped ≡ false
  pub within : IsPrefix h.list pass
  pub made : caller.made ≤ begun_below caller.number (length h.session.carried.own.methods) pass
  pub stands : Stands h

-- the session goes on, and so do the history and what the caller counts
pub record Works (app : App) (caller caller' : ACaller) (pass pass' : List Entry) (old new : AHeld) : Type 0 where
  pub served : IsServed app caller' pass' new
  pub keeps : Keeps old new
  pub grows : IsPrefix pass pass'
  pub number : caller'.number ≡ caller.number
  pub list : IsPrefix caller.list caller'.list

-- ---- why it ends

-- what is so of a session whose event was refused so
abbrev pub IsWhy : ASession → EventFault → Type 0
IsWhy s fault.JournalFull = is_full s ≡ true
IsWhy s e = Unit {0}

-- what an event's answer makes of the loop
abbrev pub end_by : Outcome → Result (Unit {0}) Ended
end_by (Ok u) = Ok u
end_by (Err fault.Idle) = Ok tt
end_by (Err fault.QueueFull) = Ok tt
end_by (Err fault.JournalFull) = Err ended.JournalFull
end_by (Err fault.Memory) = Err ended.Memory

-- an event ends it where the journal is full, or for want of memory
abbrev pub StopsEvent : ASession → Ended → Type 0
StopsEvent s ended.JournalFull = is_full s ≡ true
StopsEvent s ended.Memory = Unit {0}
StopsEvent s e = ⊥

-- a look at the store does so too, and where the session's calls are another's too
abbrev pub StopsLook : ACaller → List Entry → AHeld → Ended → Type 0
StopsLook caller pass h (ended.Foreign last) = IsForeign last caller pass
StopsLook caller pass h e = StopsEvent h.session e

-- an offer ends it where the link has failed, where the peer has closed, or for want of memory
abbrev pub StopsOffer : ℕ → ℕ → Ended → Type 0
StopsOffer faults faults' ended.LinkFault = faults < faults'
StopsOffer faults faults' ended.Memory = Unit {0}
StopsOffer faults faults' ended.PeerClosed = Unit {0}
StopsOffer faults faults' e = ⊥

-- a poll ends it where the peer has closed, too, and where the text can't be taken
abbrev pub StopsPoll : ℕ → ℕ → ASession → Ended → Type 0
StopsPoll faults faults' s ended.PeerClosed = Unit {0}
StopsPoll faults faults' s ended.LinkFault = faults < faults'
StopsPoll faults faults' s e = StopsEvent s e

-- the same behind a test of the session's version
abbrev pub StopsHear : ℕ → ℕ → ASession → Ended → Type 0
StopsHear faults faults' s ended.VersionRefused = s.carried.own.failed ≡ true
StopsHear faults faults' s e = StopsPoll faults faults' s e

-- ---- rest

-- whatever texts it stands for, the session is at rest
abbrev pub RestsAsItStands : AHeld → Type 0
RestsAsItStands h = (taken sent : List (List ℕ)) → StandsFor taken sent h → IsAtRest h

-- a text was handed back, or none is held or waits to be sent, and the session rests
abbrev pub IsRestful : AHeld → Desk → Type 0
IsRestful h d = (d.refused ≡ true) ⊎ ((d.held ≡ None) × (d.back ≡ None) × RestsAsItStands h)

-- no text is held, and the link may be polled
abbrev pub IsDue : AHeld → Desk → Type 0
IsDue h d = (d.held ≡ None) × ((d.refused ≡ true) ⊎ ((d.back ≡ None) × RestsAsItStands h))
