-- Messages as texts, as they are written (Meteor's DDP.md, "General Message Structure").
use Rattle.std.specs.Prelude.{ℕ, List}
use Rattle.serde_json.specs.Written.{compact_text}
use Rattle.ddp_messages.specs.ClientMessage.{ClientMessage}
use Rattle.ddp_messages.specs.ServerMessage.{ServerMessage}
use Rattle.ddp_messages.specs.Written.{client_written, server_written}

abbrev pub client_text : ClientMessage → List ℕ
client_text message = compact_text (client_written message)

abbrev pub server_text : ServerMessage → List ℕ
server_text message = compact_text (server_written message)
