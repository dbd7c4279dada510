-- What a revived client keeps to: documents and ids that messages can hold, and held texts that say nothing of documents.
use Rattle.std.specs.Prelude.{◌≡◌, ℕ, List, [], ◌∷◌, Bool, true, false, Result, Ok, Err}
use Rattle.std.specs.Map.{keys_of}
use Rattle.ddp_messages.specs.Limits.{AreShort}
use Rattle.ddp_messages.specs.Answers.{server_answer}
use Rattle.ddp_messages.specs.declared.fault.MsgFault.{MsgFault}
use Rattle.ddp_messages.specs.ServerMessage.{ServerMessage}
use Rattle.ddp_messages.specs.ServerMessage as server
use Rattle.client_model.specs.Client.{Client}
use Rattle.reconnect_model.specs.Revival.{Revival}
use Rattle.reconnect_model.specs.RevivalLaws.{IsShown}
use Rattle.reconnect_laws.specs.Sent.{AreSent}

-- the message refuses the client's version
abbrev pub is_refusal : ServerMessage → Bool
is_refusal (server.failed version) = true
is_refusal _ = false

abbrev pub refuses : Result ServerMessage MsgFault → Bool
refuses (Ok m) = is_refusal m
refuses (Err fault) = false

-- the message says nothing of documents, and doesn't refuse the version
abbrev pub is_quiet : ServerMessage → Bool
is_quiet (server.about m) = false
is_quiet (server.failed version) = false
is_quiet _ = true

abbrev pub IsQuiet : List ℕ → Type 0
IsQuiet text = (m : ServerMessage) × (server_answer text ≡ Ok m) × (is_quiet m ≡ true)

abbrev pub AreQuiet : List (List ℕ) → Type 0
AreQuiet [] = Unit {0}
AreQuiet (text ∷ texts) = IsQuiet text × AreQuiet texts

-- no text but the last one refuses the version
abbrev pub GoOn : List (List ℕ) → Type 0
GoOn [] = Unit {0}
GoOn (text ∷ []) = Unit {0}
GoOn (text ∷ next ∷ texts) = (refuses (server_answer text) ≡ false) × GoOn (next ∷ texts)

-- no text does
abbrev pub AllGoOn : List (List ℕ) → Type 0
AllGoOn [] = Unit {0}
AllGoOn (text ∷ texts) = (refuses (server_answer text) ≡ false) × AllGoOn texts

pub record IsKept (r : Revival) : Type 0 where
  pub given : AreSent r.given
  pub copy : AreSent r.copy
  pub calls : AreShort (keys_of r.calls)
  pub ended : AreShort (keys_of r.ended)
  pub held : AreQuiet r.held

-- The client has the documents that it was given, and these are those that the present session sent, while its epoch is revived.
pub record IsFaithful (c : Client) (r : Revival) : Type 0 where
  pub server : c.documents.server ≡ r.given
  pub kept : IsKept r
  pub shown : IsShown r
