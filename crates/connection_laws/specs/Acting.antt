-- What is kept of a client after an act, and that this is the act of the world's definitions.
use Rattle.std.specs.Prelude.{◌≡◌, ℕ, List, [], ◌∷◌, ◌++◌, true, Some, None, Ok, Err}
use Rattle.app_model.specs.App.{App}
use Rattle.world_invariant_laws.specs.history_model.declared.entry.Entry.{Entry}
use Rattle.client_core.specs.State.{Own}
use Rattle.session_laws.specs.declared.fault.EventFault.TheVariants as fault
use Rattle.session_laws.specs.Session.{ASession}
use Rattle.session_laws.specs.Events.{Outcome}
use Rattle.world_invariant_laws.specs.world_model.declared.events.Act.{Act}
use Rattle.world_invariant_laws.specs.world_model.declared.events.Answer.TheVariants as answer
use Rattle.world_invariant_laws.specs.world_model.Acts.{outcome, does as does_of}
use Rattle.connection_laws.specs.Connection.{AConnection, as_conn, IsConnection}

-- ---- what is kept then

-- the client does something alone
abbrev pub with_own : Own → AConnection → AConnection
with_own own x = record x { own = own }

-- the session does something alone
abbrev pub with_session : ASession → AConnection → AConnection
with_session s x = record x { session = s }

-- the client's text goes onto the link to the server
abbrev pub gone_up : Own → List ℕ → AConnection → AConnection
gone_up own t x = record x { own = own; upward = x.upward ++ t ∷ [] }

-- the session takes a text off that link, on which these are left
abbrev pub taken_in : List ℕ → List (List ℕ) → ASession → AConnection → AConnection
taken_in t rest s x = record x { upward = rest; session = s; received = x.received ++ t ∷ [] }

-- a refusal by the store is kept, or learnt of
abbrev pub with_refusal : ℕ → ℕ → AConnection → AConnection
with_refusal k at x = record x { kept = Some (record { k = k; at = at }) }

abbrev pub refusal_learnt : ASession → AConnection → AConnection
refusal_learnt s x = record x { session = s; kept = None }

-- the session's text goes onto the link to the client
abbrev pub sent_on : List ℕ → ASession → AConnection → AConnection
sent_on t s x = record x { session = s; sent = x.sent ++ t ∷ []; downward = x.downward ++ t ∷ [] }

-- the client takes a text off that link, on which these are left
abbrev pub taken_off : Own → List (List ℕ) → AConnection → AConnection
taken_off own rest x = record x { own = own; downward = rest }

-- the client queues a text of the caller's own
abbrev pub with_raw : Own → AConnection → AConnection
with_raw own x = record x { own = own; made_raw = true }

-- both are gone
abbrev pub gone : ASession → AConnection → AConnection
gone s x = record x { session = s; is_dropped = true }

-- ---- that it is the act

-- The act is made, and makes this of the client and its session.
pub record IsDone (app : App) (name : List ℕ) (history : List Entry) (a : Act) (old new : AConnection) : Type 0 where
  pub can : outcome app history (as_conn old) a ≡ answer.Done
  pub does : as_conn new ≡ does_of app history (as_conn old) a
  pub stays : IsConnection app name history new

-- The event of the session is the act: it is done where the act is made, and refused as the act is. Want of memory says nothing of the act
abbrev pub Makes : App → List ℕ → List Entry → Act → AConnection → AConnection → Outcome → Type 0
Makes app name history a old new (Ok u) = IsDone app name history a old new
Makes app name history a old new (Err fault.Idle) = outcome app history (as_conn old) a ≡ answer.Idle
Makes app name history a old new (Err fault.JournalFull) = outcome app history (as_conn old) a ≡ answer.JournalFull
Makes app name history a old new (Err fault.QueueFull) = outcome app history (as_conn old) a ≡ answer.QueueFull
Makes app name history a old new (Err fault.Memory) = Unit {0}
