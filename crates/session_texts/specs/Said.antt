-- The messages that are answered at once, and the texts of those about documents.
use Rattle.std.specs.Prelude.{ℕ, List, []}
use Rattle.ejson_value.specs.declared.message.DataMsg.{DataMsg}
use Rattle.ddp_messages.specs.ServerMessage.{ServerMessage}
use Rattle.ddp_messages.specs.ServerMessage as server
use Rattle.ddp_messages.specs.Texts.{server_text}
use Rattle.session_model.specs.Items.{Item}
use Rattle.session_model.specs.State.{started}
use Rattle.session_model.specs.Out.{own_messages}

-- what the item of an answer says; it needs no store, and nothing of the session but its number
abbrev pub answer_messages : ℕ → Item → List ServerMessage
answer_messages number i = own_messages [] number started i

abbrev pub data_text : DataMsg → List ℕ
data_text message = server_text (server.about message)
