-- What a session makes of a text can be said in messages, and the message that waits is a request within the limits of messages.
use Rattle.std.specs.Prelude.{◌≡◌, Bool, true, false, IfSome}
use Rattle.ddp_messages.specs.ClientMessage.{ClientMessage}
use Rattle.ddp_messages.specs.ClientMessage as client
use Rattle.world_model.specs.session_model.Items.{Item}
use Rattle.world_model.specs.session_model.Items as item
use Rattle.world_model.specs.session_model.Answering.{is_at_once}
use Rattle.world_model.specs.session_model.Taking.{Taken, at_once, to_queue}
use Rattle.world_values_laws.specs.ReadValues.{IsRead, IsFine}

-- it waits until it is handled
abbrev pub is_request : ClientMessage → Bool
is_request (client.sub id name params) = true
is_request (client.unsub id) = true
is_request (client.method id name params seed) = true
is_request message = false

-- the object that a refused text was is a value of EJSON, where it is shown
abbrev pub IsSayable : Item → Type 0
IsSayable (item.bad reason offending) = IfSome offending IsRead
IsSayable i = Unit {0}

abbrev pub IsTaken : Taken → Type 0
IsTaken (at_once i) = (is_at_once i ≡ true) × IsSayable i
IsTaken (to_queue message) = (is_request message ≡ true) × IsFine message
