-- What a session stands for: the texts that it took, the moments of its store, and the texts that it sent.
use Rattle.std.specs.Prelude.{◌≡◌, ℕ, ◌<◌, List, [], ◌∷◌, length, map, Bool, true, false, Option, None, Some}
use Rattle.ddp_messages.specs.Limits.{IsShort}
use Rattle.ddp_messages.specs.ClientMessage.{ClientMessage}
use Rattle.ddp_messages.specs.ClientMessage as client
use Rattle.session_model.specs.Items.{id_of}
use Rattle.live_observer.specs.Observing.{AnObserver, cursors_of, StandsAt}
use Rattle.session_model.specs.Subscriptions.{Live}
use Rattle.session_model.specs.Moments.{Moment, rows_at}
use Rattle.session_journal_laws.specs.Shows.{AreInOrder}
use Rattle.session_journal_laws.specs.Resolved.{message_at}
use Rattle.session_journal_laws.specs.Stands.{items_of, Stands}
use Rattle.session_laws.specs.Storing.{shown_id}
use Rattle.session_laws.specs.Session.{ASession}

-- it is handled in its turn
abbrev pub is_request : ClientMessage → Bool
is_request (client.sub id name params) = true
is_request (client.unsub id) = true
is_request (client.method id name params seed) = true
is_request message = false

-- the message waits whose text was taken at the place
pub record IsFrom (taken : List (List ℕ)) (place : ℕ) (message : ClientMessage) : Type 0 where
  pub within : place < length taken
  pub says : message_at taken place ≡ message
  pub waits : is_request message ≡ true
  pub short : IsShort (id_of message)

abbrev pub AreFrom : List (List ℕ) → List ℕ → List ClientMessage → Type 0
AreFrom taken [] [] = Unit {0}
AreFrom taken [] (m ∷ ms) = ⊥
AreFrom taken (p ∷ ps) [] = ⊥
AreFrom taken (p ∷ ps) (m ∷ ms) = IsFrom taken p m × AreFrom taken ps ms

-- a loaded subscription has an observer of its cursors that stands at the documents of its place
pub record Watches (C : List Moment) (l : Live) (place : ℕ) (observer : AnObserver) : Type 0 where
  pub cursors : cursors_of observer ≡ l.cursors
  pub stands : StandsAt observer (rows_at C place)

abbrev pub IsWatched : List Moment → Live → Option ℕ → Option AnObserver → Type 0
IsWatched C l None observer = observer ≡ None
IsWatched C l (Some place) None = ⊥
IsWatched C l (Some place) (Some observer) = Watches C l place observer

abbrev pub AreWatched : List Moment → List Live → List (Option AnObserver) → Type 0
AreWatched C [] [] = Unit {0}
AreWatched C [] (o ∷ os) = ⊥
AreWatched C (l ∷ ls) [] = ⊥
AreWatched C (l ∷ ls) (o ∷ os) = IsWatched C l l.cursor o × AreWatched C ls os

-- where messages wait, the session is connected
abbrev pub AreOpen : Bool → List ClientMessage → Type 0
AreOpen b [] = Unit {0}
AreOpen b (m ∷ ms) = b ≡ true

-- The texts sent and those of the outbox are the texts of the journal, and all that is carried along is as the journal says.
-- The documents of each moment stand by key.
pub record Means (taken : List (List ℕ)) (C : List Moment) (sent : List (List ℕ)) (s : ASession) : Type 0 where
  pub order : AreInOrder C
  pub stands : Stands taken C sent s.carried
  pub ids : s.ids ≡ map shown_id (items_of taken s.carried)
  pub from : AreFrom taken s.places s.carried.waiting
  pub connected : AreOpen s.carried.own.connected s.carried.waiting
  pub watched : AreWatched C s.carried.own.subs s.observers
