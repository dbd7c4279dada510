-- A client that is given texts of a server one by one.
use Rattle.std.specs.Prelude.{ℕ, List, [], ◌∷◌, Result, Ok, Err, if◌then◌else◌}
use Rattle.ejson_value.specs.Rows.{Rows}
use Rattle.ddp_messages.specs.Answers.{server_answer}
use Rattle.ddp_messages.specs.declared.fault.MsgFault.{MsgFault}
use Rattle.ddp_messages.specs.ServerMessage.{ServerMessage}
use Rattle.client_model.specs.Client.{Client}
use Rattle.client_model.specs.Taking.{told_text}
use Rattle.client_model.specs.Asking.{can_take}
use Rattle.reconnect_model.specs.Giving.{documents}

-- It takes them up to the first that it refuses or by which its version is refused.
abbrev pub all_given : List (List ℕ) → Client → Client
all_given [] c = c
all_given (text ∷ texts) c = let next = told_text c text in (if can_take next then all_given texts next else next)

-- what a text makes of the documents that a reader has: nothing, if it is no message
abbrev pub documents_by : Rows → Result ServerMessage MsgFault → Rows
documents_by rows (Ok m) = documents rows m
documents_by rows (Err fault) = rows

-- the same of texts, one after another
abbrev pub all_documents : Rows → List (List ℕ) → Rows
all_documents rows [] = rows
all_documents rows (text ∷ texts) = all_documents (documents_by rows (server_answer text)) texts
