-- The messages that wait in a session are requests of one that is connected, and the item of a request may follow.
use Rattle.std.specs.Prelude.{◌≡◌, ℕ, List, [], ◌∷◌, Bool, true, false}
use Rattle.ddp_messages.specs.Limits.{IsShort}
use Rattle.ddp_messages.specs.ClientMessage.{ClientMessage}
use Rattle.ddp_messages.specs.ClientMessage as client
use Rattle.app_model.specs.App.{App}
use Rattle.world_model.specs.session_model.Items.{Item, id_of, handled_by, handled}
use Rattle.world_model.specs.session_model.State.{State}
use Rattle.world_model.specs.session_model.Moments.{Moment}
use Rattle.world_model.specs.session_model.Taking.{Taken, at_once, to_queue}
use Rattle.world_model.specs.session_model.Answering.{is_at_once}
use Rattle.world_model.specs.session_model.Fits.{CanFollow}

-- ---- what comes of a text

abbrev pub is_request : ClientMessage → Bool
is_request (client.sub id name params) = true
is_request (client.unsub id) = true
is_request (client.method id name params seed) = true
is_request m = false

-- what is answered at once is, and what waits is a request
abbrev pub IsSorted : Taken → Type 0
IsSorted (at_once i) = is_at_once i ≡ true
IsSorted (to_queue m) = is_request m ≡ true

-- ---- nothing waits before the session is connected

abbrev pub Waits : Taken → Type 0
Waits (at_once i) = ⊥
Waits (to_queue m) = Unit {0}

-- ---- what waits

abbrev pub AreRequests : List ClientMessage → Type 0
AreRequests [] = Unit {0}
AreRequests (m ∷ ms) = ((is_request m ≡ true) × IsShort (id_of m)) × AreRequests ms

-- ---- a request is handled

-- what the item of a request is
pub record IsTurn (app : App) (number : ℕ) (C : List Moment) (st : State) (m : ClientMessage) (i : Item) : Type 0 where
  pub can : CanFollow app number C st i
  pub answers : handled_by i ≡ m ∷ []
  pub later : is_at_once i ≡ false
