-- A client's state.
use Rattle.std.specs.Prelude.{ℕ, List, [], ◌∷◌, Bool, false, Option, Some, None, codes}
use Rattle.value_model.specs.Val.{Entries}
use Rattle.view_model.specs.Views.{View, no_documents}
use Rattle.ejson_value.specs.declared.key.Key.{Key}
use Rattle.program_steps.specs.Runs.{Outcome}
use Rattle.ddp_messages.specs.ClientMessage.{connect}
use Rattle.ddp_messages.specs.Texts.{client_text}
use Rattle.client_model.specs.declared.subs.SubState.{SubState}

-- a subscription, and whether its `unsub` was queued since its `sub`
pub record Sub : Type 0 where
  pub state : SubState
  pub is_stopped : Bool

-- by id
abbrev pub Subs : Type 0
Subs = List (List ℕ × Sub)

-- a call, with what the server said that it came to, and whether the server said that its writes are there
pub record Call : Type 0 where
  pub outcome : Option Outcome
  pub is_updated : Bool

pub record Client : Type 0 where
  -- the name of the session, once `connected` was taken; whether the version was refused; and the number of the refusal of a text that broke the client
  pub session : Option (List ℕ)
  pub is_failed : Bool
  pub broken : Option ℕ
  -- the texts that wait
  pub waiting : List (List ℕ)
  pub documents : View Key Entries
  pub subs : Subs
  -- the first one has the number 1
  pub calls : List Call

-- a client at its beginning: its `connect` waits
abbrev pub new_client : Client
new_client = record {
  session = None;
  is_failed = false;
  broken = None;
  waiting = client_text (connect (codes "1") (Some (codes "1" ∷ []))) ∷ [];
  documents = no_documents;
  subs = [];
  calls = [];
}
