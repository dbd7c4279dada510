-- What a session makes of a message that it handles, before it changes anything.
use Rattle.std.specs.Prelude.{◌≡◌, ℕ, [], map, None}
use Rattle.ddp_messages.specs.ClientMessage.{ClientMessage}
use Rattle.ddp_messages.specs.Texts.{server_text}
use Rattle.session_laws.specs.session_model.Items.{Item}
use Rattle.session_laws.specs.session_model.Items as item
use Rattle.session_laws.specs.session_model.State.{State, own_after}
use Rattle.session_laws.specs.session_model.Out.{own_messages}
use Rattle.session_laws.specs.session_model.Fits.{item_for}
use Rattle.session_laws.specs.Storing.{kept_as, shown_id}
use Rattle.session_state.specs.declared.own.Step.{Step}
use Rattle.session_state.specs.declared.own.Step.TheVariants as step
use Rattle.session_state.specs.Own.{as_state, stepped}
use Rattle.session_core.specs.declared.adding.Addition.{Addition}
use Rattle.session_core.specs.declared.asked.Asked.{Asked}

-- Such a step carries such an item out: a subscription is opened with no observer, and the one that is closed and the call that is handled are the item's
abbrev pub Carries : Step → Item → Type 0
Carries (step.Open sub) (item.subscribe s message cursors) = sub.observer ≡ None
Carries (step.Close t) (item.close s message) = t ≡ s
Carries (step.Handle id call) (item.call k message seed) = call.k ≡ k
Carries step.Stay (item.same message) = Unit {0}
Carries step.Stay (item.nosub message fault) = Unit {0}
Carries step.Stay (item.unknown message) = Unit {0}
Carries step.Stay item.pong = Unit {0}
Carries s i = ⊥

-- what the addition does is what the item does, and its words are what the item says: it needs no store for that
pub record IsAddition (number : ℕ) (st : State) (place : ℕ) (i : Item) (a : Addition) : Type 0 where
  pub kept : a.item ≡ kept_as place i
  pub id : a.id ≡ shown_id i
  pub carries : Carries a.step i
  pub does : stepped a.step st ≡ own_after st i
  pub says : a.words.items ≡ map server_text (own_messages [] number st i)

abbrev pub state_in : Asked → State
state_in a = as_state a.own.now

-- the addition is that of the item
abbrev pub Adds : Asked → Item → Addition → Type 0
Adds a i addition = IsAddition a.number (state_in a) a.text i addition

-- the item that is made of the message
abbrev pub item_in : Asked → ClientMessage → Item
item_in a m = item_for a.app.now a.number (state_in a) m
