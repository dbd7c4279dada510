-- What a client asks for by a text that it queues.
use Rattle.std.specs.Prelude.{◌≡◌, ℕ, List, Option, Some, None}
use Rattle.ddp_messages.specs.declared.from_client.FromClient.{FromClient}
use Rattle.ddp_messages.specs.ClientMessage.{ClientMessage, client_view}
use Rattle.ddp_messages.specs.Answers.{client_answer}
use Rattle.reconnect_model.specs.Revival.{Revival, Wanted, Called}
use Rattle.reconnect_model.specs.Saying.{asked, asked_by}

-- what is asked for once a message was queued, if the text is one
abbrev pub asked_if : Revival → List ℕ → Option ClientMessage → Revival
asked_if r text None = r
asked_if r text (Some m) = asked r text m

abbrev pub seen : Option FromClient → Option ClientMessage
seen None = None
seen (Some m) = Some (client_view m)

abbrev pub IsAskedFor : List ℕ → Option FromClient → Type 0
IsAskedFor text message = (r : Revival) → asked_by r text (client_answer text) ≡ asked_if r text (seen message)

-- the parts of what is asked for
pub record Asked : Type 0 where
  pub subs : List (List ℕ × Wanted)
  pub ended : List (List ℕ × ℕ)
  pub calls : List (List ℕ × Called)

abbrev pub parts : Revival → Asked
parts r = record { subs = r.subs; ended = r.ended; calls = r.calls }

abbrev pub with_parts : Revival → Asked → Revival
with_parts r a = record r { subs = a.subs; ended = a.ended; calls = a.calls }

-- the parts after the message was queued, behind so many others
abbrev pub Asks : ℕ → List ℕ → Option ClientMessage → Asked → Asked → Type 0
Asks place text m old new = (r : Revival) → r.queued ≡ place → parts r ≡ old → asked_if r text m ≡ with_parts r new
