-- The text of a message within the limits reads as the message.
use Rattle.std.specs.Prelude.{◌≡◌, Ok, refl}
use Rattle.serde_json.specs.Written.{compact_text}
use Rattle.ejson_codec.specs.CompactLaws.{read-compact_text}
use Rattle.ddp_messages.specs.ClientMessage.{ClientMessage}
use Rattle.ddp_messages.specs.ServerMessage.{ServerMessage}
use Rattle.ddp_messages.specs.Answers.{client_answer, server_answer}
use Rattle.ddp_messages.specs.AnswerLaws.{client_answer_only, server_answer_only}
use Rattle.ddp_messages.specs.ClientLaws.{client_back}
use Rattle.ddp_messages.specs.ServerLaws.{server_back}
use Rattle.ddp_messages.specs.ExactLaws.{client_exact, server_exact}
use Rattle.ddp_messages.specs.Limits.{ClientKeepsLimits, ClientHasValues, ServerKeepsLimits, ServerHasValues}
use Rattle.ddp_messages.specs.RisingLaws.{client_rising, server_rising}
use Rattle.ddp_messages.specs.TextLaws.{client_depth, server_depth}
use Rattle.ddp_messages.specs.Written.{client_written, server_written}

pub client_text_back : (m : ClientMessage) → ClientHasValues m → ClientKeepsLimits m → client_answer (compact_text (client_written m)) ≡ Ok m
client_text_back m h k =
    client_answer_only (compact_text (client_written m)) m
    (client_written m, read-compact_text (client_written m) (client_exact m h) (client_rising m h) (client_depth m k), client_back m h k)

pub server_text_back : (m : ServerMessage) → ServerHasValues m → ServerKeepsLimits m → server_answer (compact_text (server_written m)) ≡ Ok m
server_text_back m h k =
    server_answer_only (compact_text (server_written m)) m
    (server_written m, read-compact_text (server_written m) (server_exact m h) (server_rising m h) (server_depth m k), refl, server_back m h k)
