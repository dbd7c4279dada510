-- What a client does that is asked for something: it does so exactly where this is possible, and otherwise stays as it was.
use Rattle.std.specs.Prelude.{◌≡◌, ◌++◌, ℕ, suc, List, [], ◌∷◌, length, Bool, true, false, All, Option, Some, None, Result, Ok, Err}
use Rattle.std.specs.List.{list_any}
use Rattle.std.specs.Ordering.{eq_by_cmp}
use Rattle.map_model.specs.Maps.{set}
use Rattle.map_model.specs.Changes.{changed}
use Rattle.value_model.specs.Order.{text_cmp}
use Rattle.value_model.specs.Val.{Val}
use Rattle.view_model.specs.Views.{simulated}
use Rattle.ejson_value.specs.declared.change.Change.{Change}
use Rattle.ejson_value.specs.Key.{key_cmp}
use Rattle.ejson_value.specs.Changes.{changes_of}
use Rattle.ejson_value.specs.ChangeLaws.{AllFit, HaveDistinctKeys}
use Rattle.ejson_value.specs.Rows.{Rows}
use Rattle.program_model.specs.Steps.{Stepped}
use Rattle.stub_simulation.specs.declared.simulation.Simulated.{Simulated}
use Rattle.program_model.specs.Touched.{each_once}
use Rattle.stub_simulation.specs.Simulating.{simulation}
use Rattle.client_model.specs.declared.subs.SubState.TheVariants as state
use Rattle.client_model.specs.Client.{Client}
use Rattle.client_model.specs.Asking.{can_call, seed_of, called}
use Rattle.client_core.specs.declared.fault.ClientFault.{ClientFault}
use Rattle.client_core.specs.declared.fault.ClientFault.TheVariants.{Idle, Memory}
use Rattle.client_core.specs.State.{Own}

-- the client does this exactly where it can
abbrev pub Does : {X : Type 0} → Bool → (Client → Client) → Own → Own → Result X ClientFault → Type 0
Does can act old new (Ok x) = (can ≡ true) × (new ≡ record old { client = act old.client })
Does can act old new (Err Idle) = (can ≡ false) × (new ≡ old)
Does can act old new (Err Memory) = new ≡ old

-- the subscription of this id waits, and this text
abbrev pub asked_for : List ℕ → List ℕ → Client → Client
asked_for id text c = record c {
  waiting = c.waiting ++ text ∷ [];
  subs = set text_cmp c.subs id (Some (record { state = state.Waiting; is_stopped = false }));
}

-- the number of the next call
abbrev pub next_number : Own → ℕ
next_number own = suc (length own.client.calls)

-- what the stub of the next call makes of the view
abbrev pub simulation_of : List ℕ → List Val → Own → Stepped
simulation_of method params own = simulation own.app method params (seed_of own.client.session (next_number own)) own.client.documents.view

abbrev pub called_with : List ℕ → List Val → Stepped → Client → Client
called_with method params stub c = called method params stub.rows (each_once stub.touched) c

-- the call is made, and its simulation is shown
abbrev pub called_by : List ℕ → List Val → Own → Own
called_by method params own = record own { client = called_with method params (simulation_of method params own) own.client }

-- a call answers its number
abbrev pub Calls : List ℕ → List Val → Own → Own → Result ℕ ClientFault → Type 0
Calls method params old new (Ok number) = (can_call old.client ≡ true) × (number ≡ next_number old) × (new ≡ called_by method params old)
Calls method params old new (Err Idle) = (can_call old.client ≡ false) × (new ≡ old)
Calls method params old new (Err Memory) = new ≡ old

-- the changes are of different documents, each of what the rows have, and of documents that are touched
pub record AreOf (rows : Rows) (s : Simulated) : Type 0 where
  pub fit : AllFit rows s.changes
  pub apart : HaveDistinctKeys s.changes
  pub among : All (λ (c : Change). list_any (eq_by_cmp key_cmp c.key) s.touched ≡ true) s.changes

-- the call's text waits, and what it simulated is shown
abbrev pub entered : ℕ → List ℕ → Simulated → Client → Client
entered number text s c = record c {
  waiting = c.waiting ++ text ∷ [];
  documents = simulated key_cmp number (changed key_cmp c.documents.view (changes_of s.changes)) s.touched c.documents;
  calls = c.calls ++ record { outcome = None; is_updated = false } ∷ [];
}

abbrev pub IsEntered : ℕ → List ℕ → Simulated → Own → Own → Type 0
IsEntered number text s old new = new ≡ record old { client = entered number text s old.client }

-- the first text that waits goes out, where there is one
abbrev pub IsSent : Own → Own → Option (List ℕ) → Type 0
IsSent old new None = (old.client.waiting ≡ []) × (new ≡ old)
IsSent old new (Some text) =
    (old.client.waiting ≡ text ∷ new.client.waiting) × (new ≡ record old { client = record old.client { waiting = new.client.waiting } })
