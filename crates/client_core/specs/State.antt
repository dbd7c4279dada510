-- What contracts see of a client.
use Rattle.std.specs.Prelude.{ℕ, List, Bool, Option}
use Rattle.value_model.specs.Val.{Val, Entries}
use Rattle.view_model.specs.Views.{View}
use Rattle.ejson_value.specs.declared.key.Key.{Key}
use Rattle.app_model.specs.App.{App}
use Rattle.client_model.specs.Client.{Client, Subs, Call}
use Rattle.client_model.specs.Lines.{shown}

-- a client with its name, and the application whose stubs it runs
pub record Own : Type 0 where
  pub app : App
  pub name : List ℕ
  pub client : Client

abbrev pub state_of : Option (List ℕ) → Bool → Option ℕ → List (List ℕ) → View Key Entries → Subs → List Call → Client
state_of session is_failed broken waiting documents subs calls = record {
  session = session;
  is_failed = is_failed;
  broken = broken;
  waiting = waiting;
  documents = documents;
  subs = subs;
  calls = calls;
}

abbrev pub show_lines : Own → List Val
show_lines own = shown own.name own.client.documents.view own.client.subs own.client.calls
