-- The journal against the texts that the session took: each is answered at once, or its message waits and is handled in its turn.
use Rattle.std.specs.Prelude.{◌≡◌, ℕ, List, ◌++◌, filter, Bool, true, false}
use Rattle.ddp_messages.specs.ClientMessage.{ClientMessage}
use Rattle.session_model.specs.Items.{Item, handled}
use Rattle.session_model.specs.Items as item
use Rattle.session_model.specs.State.{state_of}
use Rattle.session_model.specs.Taking.{is_connected_by, answered_from, queued_from}

-- the item answers a text as soon as it is taken
abbrev pub is_at_once : Item → Bool
is_at_once item.connect = true
is_at_once item.fail = true
is_at_once (item.ping id) = true
is_at_once item.pong = true
is_at_once (item.bad reason offending) = true
is_at_once i = false

abbrev pub at_once_in : List Item → List Item
at_once_in items = filter is_at_once items

-- These items are the journal of a session that took these texts, and has still to handle these messages.
pub record Answers (taken : List (List ℕ)) (items : List Item) (waiting : List ClientMessage) : Type 0 where
  pub at_once : answered_from false taken ≡ at_once_in items
  pub in_turn : queued_from false taken ≡ handled items ++ waiting
  pub connected : is_connected_by false taken ≡ (state_of items).connected
