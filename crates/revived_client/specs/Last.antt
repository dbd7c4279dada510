-- The text that a client queued last, of which the reviver knows nothing yet.
use Rattle.std.specs.Prelude.{◌≡◌, ℕ, List, [], Option, Some, None}
use Rattle.client_model.specs.Client.{Client}
use Rattle.reconnect_model.specs.Revival.{Revival}
use Rattle.reconnect_model.specs.Saying.{queues, says}
use Rattle.reconnect_laws.specs.Kept.{IsFaithful}
use Rattle.revived_client.specs.declared.last.Last.{Last}

-- what is remembered with it: it was queued, and said where no copy is left to be said
abbrev pub caught_up_by : Revival → List ℕ → Option (List ℕ) → Revival
caught_up_by r text (Some copy) = queues r text
caught_up_by r text None = says (queues r text)

abbrev pub caught_up : Revival → Option Last → Revival
caught_up r None = r
caught_up r (Some last) = caught_up_by r last.text last.unsaid

-- the copy is one, and it was said once nothing waited before it
abbrev pub IsCopy : Revival → List ℕ → Option (List ℕ) → Type 0
IsCopy r text (Some copy) = copy ≡ text
IsCopy r text None = r.waiting ≡ []

abbrev pub IsNext : Revival → Option Last → Type 0
IsNext r None = Unit {0}
IsNext r (Some last) = IsCopy r last.text last.unsaid

-- A client that goes on keeps no text of its own, nothing was refused, and it has the documents that it is remembered to have been
-- given.
pub record IsGoing (client : Client) (r : Revival) (last : Option Last) : Type 0 where
  pub quiet : client.waiting ≡ []
  pub whole : client.broken ≡ None
  pub unbroken : r.broken ≡ None
  pub next : IsNext r last
  pub faithful : IsFaithful client (caught_up r last)
