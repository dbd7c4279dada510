-- What texts of a server read as (Meteor's DDP.md, "General Message Structure").
use Rattle.std.specs.Prelude.{ℕ, List, map, Result, Ok, Err}
pub use Rattle.ddp_messages.specs.Texts.{server_text}
use Rattle.ddp_messages.specs.ServerMessage.{ServerMessage, unknown}
use Rattle.ddp_messages.specs.Answers.{server_answer}
use Rattle.ddp_messages.specs.declared.fault.MsgFault.{MsgFault}

abbrev pub or_unknown : Result ServerMessage MsgFault → ServerMessage
or_unknown (Ok message) = message
or_unknown (Err fault) = unknown

-- the message that a text from a server is; no message counts as an unknown one
abbrev pub message_in : List ℕ → ServerMessage
message_in t = or_unknown (server_answer t)

abbrev pub messages_in : List (List ℕ) → List ServerMessage
messages_in texts = map message_in texts
