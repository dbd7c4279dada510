-- The publications that news are told of: which cursors an application has under a name with parameters, and which subscription of a session is meant.
use Rattle.std.specs.Prelude.{◌≡◌, ℕ, List, map, Bool, false, Some, is_some, Ok}
use Rattle.std.specs.List.{list_any, AllByRecursion}
use Rattle.app_model.specs.App.{App}
use Rattle.connection_laws.specs.publication.declared.cursor.Cursor.{Cursor}
use Rattle.connection_laws.specs.publication.Cursors.{ACursors}
use Rattle.connection_laws.specs.session_model.Publication.{making}
use Rattle.connection_laws.specs.session_model.Subscriptions.{Live}
use Rattle.connection_laws.specs.session_journal_laws.Resolved.{cursors_in}
use Rattle.session_state.specs.declared.subs.Sub.{Sub}
use Rattle.session_core.specs.session_model.Observers.{observer_at}
use Rattle.session_state.specs.Subs.{as_live, live_of, observers_of}
use Rattle.connection_laws.specs.session_laws.Session.{ASession}
use Rattle.multiplexer.specs.Telling.{CursorsAt, IsSource}

-- the cursors that the application's publication of this name makes with the parameters; none where it makes none
abbrev pub cursors_at_of : App → CursorsAt
cursors_at_of app name params = cursors_in (making app name params)

-- it makes those that the subscription has
abbrev pub IsMadeBy : App → Live → Type 0
IsMadeBy app l = making app l.name l.params ≡ Ok l.cursors

abbrev pub AreMadeBy : App → List Live → Type 0
AreMadeBy app ls = AllByRecursion (IsMadeBy app) ls

-- some cursor has a limit
abbrev pub has_limit : ACursors → Bool
has_limit cursors = list_any (λ (cursor : Cursor). is_some cursor.limit) cursors

-- ---- which subscription of a session

-- these are its live subscriptions, with their observers
pub record AreSubs (subs : List Sub) (s : ASession) : Type 0 where
  pub live : map as_live subs ≡ s.carried.own.subs
  pub observers : observers_of subs ≡ s.observers

-- this is the first one with the number, with its observer
pub record IsSub (number : ℕ) (sub : Sub) (s : ASession) : Type 0 where
  pub live : Some (as_live sub) ≡ live_of number s.carried.own.subs
  pub observer : sub.observer ≡ observer_at number s.carried.own.subs s.observers

-- where none of its cursors has a limit, it is a source of the application's news
abbrev pub IsSourceOf : App → Sub → Type 0
IsSourceOf app sub = has_limit sub.cursors ≡ false → IsSource (cursors_at_of app) sub

abbrev pub AreSourcesOf : App → List Sub → Type 0
AreSourcesOf app subs = AllByRecursion (IsSourceOf app) subs
