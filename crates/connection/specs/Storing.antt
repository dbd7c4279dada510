-- What a session's acts with its store leave.
use Rattle.std.specs.Prelude.{◌≡◌, ◌+◌, ◌<◌, ◌≤◌, ℕ, List, ◌++◌, length, Option, None, Some, Result, Ok, Err}
use Rattle.ejson_value.specs.declared.change.Change.{Change}
use Rattle.ejson_value.specs.declared.change.Publish.{Publish}
use Rattle.ejson_value.specs.Rows.{Rows}
use Rattle.program_steps.specs.declared.outcome.Status.{Status}
use Rattle.app_model.specs.App.{App}
use Rattle.connection.specs.history_model.declared.entry.Entry.{Entry}
use Rattle.connection.specs.history_model.History.{held_at, status_at, changes_between}
use Rattle.connection.specs.store_machine.declared.fault.BeginFault.TheVariants as fault
use Rattle.connection.specs.store_machine.State.{MachineState, begin_answer}
use Rattle.connection.specs.session_model.Subscriptions.{cursor_of}
use Rattle.connection.specs.session_laws.Events.{IsFeed}
use Rattle.connection.specs.session_state.declared.own.Call.{Call}
use Rattle.connection.specs.world_model.declared.events.Act.{Act}
use Rattle.connection.specs.world_model.declared.events.Act.TheVariants as act
use Rattle.connection.specs.world_model.declared.events.Answer.{Answer}
use Rattle.connection.specs.world_model.declared.events.Answer.TheVariants as answer
use Rattle.connection.specs.world_model.Store.{programs, moments}
use Rattle.connection.specs.world_model.Acts.{entries}
use Rattle.connection.specs.world_invariant_laws.Session.{IsServed}
use Rattle.connection.specs.connection_laws.Connection.{AConnection, as_conn, IsConnection}
use Rattle.connection.specs.declared.side.Refusal.{Refusal}
use Rattle.connection.specs.Answers.{Acts}

-- the act's entry stands behind the history where the act is made
abbrev pub Enters : Act → MachineState → MachineState → AConnection → Answer → Type 0
Enters a m next old answer.Done = next ≡ record m { history = m.history ++ entries m.app m.history (as_conn old) a }
Enters a m next old o = next ≡ m

-- the history has no room for the call
pub record IsTurnedDown (number : ℕ) (call : Call) (m : MachineState) (r : Refusal) : Type 0 where
  pub many : ℕ
  pub kept : ℕ
  pub is : begin_answer m number call.k call.method call.params call.seed ≡ Err (fault.Full many kept)
  pub refusal : r ≡ record { k = call.k; at = length m.history }

-- the call begins, or is refused
abbrev pub Tries : {E : Type 0} → ℕ → Call → MachineState → MachineState → Result (Option Refusal) E → Type 0
Tries number call m next (Ok None) = begin_answer m number call.k call.method call.params call.seed ≡ Ok next
Tries number call m next (Ok (Some r)) = IsTurnedDown number call m r × (next ≡ m)
Tries number call m next (Err e) = next ≡ m

abbrev pub Begins : {E : Type 0} → MachineState → MachineState → AConnection → AConnection → Result Answer E → Type 0
Begins m next old new (Ok o) = Acts m.app old.own.name m.history act.Begin old new o × Enters act.Begin m next old o
Begins m next old new (Err e) = (new ≡ old) × (next ≡ m)

abbrev pub StepsOn : {E : Type 0} → ℕ → MachineState → MachineState → AConnection → Result Answer E → Type 0
StepsOn k m next old (Ok o) = (name : List ℕ) → IsConnection m.app name m.history old →
    Acts m.app name m.history (act.Step k) old old o × Enters (act.Step k) m next old o
StepsOn k m next old (Err e) = next ≡ m

-- a refusal that is kept is that of the call that blocks
abbrev pub Learns : {E : Type 0} → App → List Entry → ℕ → ℕ → AConnection → AConnection → Result Answer E → Type 0
Learns app history k at old new (Ok o) = (name : List ℕ) → IsConnection app name history old → IsServed app history (as_conn old) →
    Acts app name history (act.Learn k at) old new o
Learns app history k at old new (Err e) = new ≡ old

-- the run had this status at the place
abbrev pub LearnsFrom : {E : Type 0} → ℕ → Status → AConnection → AConnection → Result Answer E → Type 0
LearnsFrom k status old new (Ok o) =
    (app : App) (name : List ℕ) (history : List Entry) (at : ℕ) → at ≤ length history →
    status_at (programs app) history at old.session.carried.number k ≡ Some status → IsConnection app name history old →
    Acts app name history (act.Learn k at) old new o
LearnsFrom k status old new (Err e) = new ≡ old

-- these are the documents of the place
abbrev pub LoadsFrom : {E : Type 0} → ℕ → ℕ → Rows → AConnection → AConnection → Result Answer E → Type 0
LoadsFrom sub at rows old new (Ok o) =
    (app : App) (name : List ℕ) (history : List Entry) → at ≤ length history → rows ≡ (held_at (programs app) history at).rows →
    IsConnection app name history old → Acts app name history (act.Load sub at) old new o
LoadsFrom sub at rows old new (Err e) = new ≡ old

-- these are the changes of so many entries behind the place that the subscription shows
abbrev pub AdvancesBy : {E : Type 0} → ℕ → ℕ → ℕ → List Change → AConnection → AConnection → Result Answer E → Type 0
AdvancesBy sub from count changes old new (Ok o) =
    (app : App) (name : List ℕ) (history : List Entry) → cursor_of sub old.session.carried.own.subs ≡ Some from → from + count ≤ length history →
    length history < 18446744073709551616 → changes ≡ changes_between (programs app) history from count →
    IsConnection app name history old → Acts app name history (act.Advance sub count) old new o
AdvancesBy sub from count changes old new (Err e) = new ≡ old

-- the news feed the subscription
abbrev pub FeedsBy : {E : Type 0} → ℕ → ℕ → List Publish → AConnection → AConnection → Result Answer E → Type 0
FeedsBy sub count news old new (Ok o) =
    (app : App) (name : List ℕ) (history : List Entry) → IsFeed (moments app old.session.carried.number history) sub count news old.session →
    length history < 18446744073709551616 → IsConnection app name history old → Acts app name history (act.Advance sub count) old new o
FeedsBy sub count news old new (Err e) = new ≡ old
