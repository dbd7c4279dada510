-- What a session makes of a text, by what the text reads as.
use Rattle.std.specs.Prelude.{ℕ, List, Bool, not, ◌&&◌, codes, Option, Some, None, option_map, option_and_then, if◌then◌else◌}
use Rattle.serde_json.specs.Read as json
use Rattle.value_model.specs.Val.{Val}
use Rattle.value_model.specs.Size.{is_name}
use Rattle.ejson_value.specs.View.{view}
use Rattle.ddp_messages.specs.ClientMessage.{ClientMessage, connect, ping, pong, client_view}
use Rattle.session_model.specs.Items.{Item}
use Rattle.session_model.specs.Items as item
use Rattle.session_model.specs.Taking.{Taken, at_once, to_queue, offending_of, connected_by}
use Rattle.session_texts.specs.declared.taking.Answer.{Answer}
use Rattle.session_texts.specs.declared.taking.Answer.TheVariants as answer
use Rattle.session_texts.specs.declared.taking.Taken.{Taken as TheTaken}
use Rattle.session_texts.specs.declared.taking.Taken.TheVariants.{AtOnce, ToQueue}

-- the item of what is answered at once
abbrev pub as_item : Answer → Item
as_item answer.Connect = item.connect
as_item answer.Fail = item.fail
as_item (answer.Ping id) = item.ping id
as_item answer.Pong = item.pong
as_item (answer.Bad reason offending) = item.bad reason (option_map view offending)

abbrev pub as_taken : TheTaken → Taken
as_taken (AtOnce a) = at_once (as_item a)
as_taken (ToQueue m) = to_queue (client_view m)

-- what an `error` shows of a text
abbrev pub offending_in : List ℕ → Option Val
offending_in t = option_and_then offending_of (json.read t)

abbrev pub refused_with : List ℕ → Option Val → Taken
refused_with reason shown = at_once (item.bad reason shown)

-- why a text that is no message is refused, by its `msg`
abbrev pub reason_of : Bool → Option (List ℕ) → List ℕ
reason_of connected None = codes "Bad request"
reason_of connected (Some name) =
    if not connected && not (is_name name (codes "connect")) then codes "Must connect first"
    else (if connected && is_name name (codes "connect") then codes "Already connected" else codes "Bad request")

-- this, once the session is connected
abbrev pub once_connected : Bool → Option Val → Taken → Taken
once_connected connected shown taken = if connected then taken else refused_with (codes "Must connect first") shown

-- what comes of a message of its form
abbrev pub taken_message : Bool → Option Val → ClientMessage → Taken
taken_message connected shown (connect version support) = if connected then refused_with (codes "Already connected") shown else at_once (connected_by version)
taken_message connected shown (ping id) = once_connected connected shown (at_once (item.ping id))
taken_message connected shown (pong id) = once_connected connected shown (at_once item.pong)
taken_message connected shown message = once_connected connected shown (to_queue message)
