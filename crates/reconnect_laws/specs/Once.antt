-- How often a method is said.
use Rattle.std.specs.Prelude.{ℕ, ◌+◌, List, [], ◌∷◌, Bool, true, false, Result, Ok, Err}
use Rattle.std.specs.BTreeMap.{is_at}
use Rattle.value_model.specs.Order.{text_cmp}
use Rattle.ddp_messages.specs.Answers.{client_answer}
use Rattle.ddp_messages.specs.declared.fault.MsgFault.{MsgFault}
use Rattle.ddp_messages.specs.ClientMessage.{ClientMessage}
use Rattle.ddp_messages.specs.ClientMessage as client
use Rattle.reconnect_model.specs.History.{History, queued}

-- whether a message calls the method of this id
abbrev pub calls : List ℕ → ClientMessage → Bool
calls id (client.method name method params seed) = is_at (text_cmp id) name
calls id _ = false

abbrev pub is_call : List ℕ → Result ClientMessage MsgFault → Bool
is_call id (Ok m) = calls id m
is_call id (Err fault) = false

abbrev pub one_if : Bool → ℕ
one_if true = 1
one_if false = 0

-- how many of the texts call the method of this id
abbrev pub calls_in : List ℕ → List (List ℕ) → ℕ
calls_in id [] = 0
calls_in id (text ∷ texts) = one_if (is_call id (client_answer text)) + calls_in id texts

-- how many of the texts that the client queued do
abbrev pub queued_in : List ℕ → History → ℕ
queued_in id [] = 0
queued_in id (queued text ∷ past) = one_if (is_call id (client_answer text)) + queued_in id past
queued_in id (_ ∷ past) = queued_in id past
