-- The items that a session keeps, with what their texts say.
use Rattle.std.specs.Prelude.{ℕ, zero, suc, ◌<◌, List, [], ◌∷◌, take, Option, None, false, Ok, Err}
use Rattle.value_model.specs.Val.{Val}
use Rattle.ddp_messages.specs.ClientMessage.{ClientMessage}
use Rattle.ddp_messages.specs.ClientMessage as client
use Rattle.publication.specs.Cursors.{ACursors}
use Rattle.app_model.specs.App.{App}
use Rattle.session_model.specs.Publication.{Making, making}
use Rattle.session_model.specs.Items.{Item, name_of, params_of}
use Rattle.session_model.specs.Items as item
use Rattle.session_model.specs.Taking.{Taken, at_once, to_queue, taken_text, is_connected_by}
use Rattle.session_model.specs.Fits.{seed_or}
use Rattle.session_journal_laws.specs.declared.stored.Stored.{Stored}
use Rattle.session_journal_laws.specs.declared.stored.Stored.TheVariants as stored

abbrev pub text_at : List (List ℕ) → ℕ → List ℕ
text_at [] place = []
text_at (t ∷ taken) zero = t
text_at (t ∷ taken) (suc place) = text_at taken place

-- what the session made of the text at a place
abbrev pub taken_at : List (List ℕ) → ℕ → Taken
taken_at taken place = taken_text (is_connected_by false (take place taken)) (text_at taken place)

-- the item that it made at once; the message that waited. Where there is none, any one stands
abbrev pub item_or_pong : Taken → Item
item_or_pong (at_once i) = i
item_or_pong (to_queue message) = item.pong

abbrev pub message_or_pong : Taken → ClientMessage
message_or_pong (at_once i) = client.pong None
message_or_pong (to_queue message) = message

abbrev pub item_at : List (List ℕ) → ℕ → Item
item_at taken place = item_or_pong (taken_at taken place)

abbrev pub message_at : List (List ℕ) → ℕ → ClientMessage
message_at taken place = message_or_pong (taken_at taken place)

abbrev pub cursors_in : Making → ACursors
cursors_in (Ok cursors) = cursors
cursors_in (Err e) = []

abbrev pub seed_in : ClientMessage → Option Val
seed_in (client.method id name params seed) = seed
seed_in message = None

abbrev pub subscribed : App → ℕ → ClientMessage → Item
subscribed app s message = item.subscribe s message (cursors_in (making app (name_of message) (params_of message)))

abbrev pub called : ℕ → ℕ → ClientMessage → Item
called number k message = item.call k message (seed_or number k (seed_in message))

abbrev pub resolved : App → ℕ → List (List ℕ) → Stored → Item
resolved app number taken stored.Connect = item.connect
resolved app number taken stored.Fail = item.fail
resolved app number taken (stored.Ping place) = item_at taken place
resolved app number taken stored.Pong = item.pong
resolved app number taken (stored.Bad place) = item_at taken place
resolved app number taken (stored.Open s place) = subscribed app s (message_at taken place)
resolved app number taken (stored.Same place) = item.same (message_at taken place)
resolved app number taken (stored.Nosub place fault) = item.nosub (message_at taken place) fault
resolved app number taken (stored.Close s place) = item.close s (message_at taken place)
resolved app number taken (stored.Call k place) = called number k (message_at taken place)
resolved app number taken (stored.Unknown place) = item.unknown (message_at taken place)
resolved app number taken (stored.Load s place) = item.load s place
resolved app number taken (stored.Advance s count) = item.advance s count
resolved app number taken (stored.Refused k place) = item.refused k place
resolved app number taken (stored.Unblocked k) = item.unblocked k
resolved app number taken (stored.Finished k place) = item.finished k place

-- the item's text is one of the first n
abbrev pub IsPlaced : ℕ → Stored → Type 0
IsPlaced n (stored.Ping place) = place < n
IsPlaced n (stored.Bad place) = place < n
IsPlaced n (stored.Open s place) = place < n
IsPlaced n (stored.Same place) = place < n
IsPlaced n (stored.Nosub place fault) = place < n
IsPlaced n (stored.Close s place) = place < n
IsPlaced n (stored.Call k place) = place < n
IsPlaced n (stored.Unknown place) = place < n
IsPlaced n i = Unit {0}

abbrev pub ArePlaced : ℕ → List Stored → Type 0
ArePlaced n [] = Unit {0}
ArePlaced n (i ∷ items) = IsPlaced n i × ArePlaced n items
