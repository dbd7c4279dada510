-- What calls of a shared store leave and answer. Each is said of a history before the call, and of the history behind it.
use Rattle.std.specs.Prelude.{◌≡◌, ℕ, ◌+◌, ◌-◌, ◌<◌, ◌≤◌, List, [], ◌∷◌, ◌++◌, length, min, true, false, Option, None, Some, Result, Ok, Err, is_some}
use mathlib.Core.List.{IsPrefix}
use Rattle.map_model.specs.Maps.{at}
use Rattle.value_model.specs.Val.{Val}
use Rattle.ejson_value.specs.declared.value.Value.{Value}
use Rattle.ejson_value.specs.declared.memory.Mem.{Mem}
use Rattle.app_model.specs.App.{App}
use Rattle.program_steps.specs.declared.outcome.Status.{Status}
use Rattle.history_model.specs.declared.entry.Entry.{Entry}
use Rattle.history_model.specs.declared.entry.Entry.TheVariants as entry
use Rattle.history_model.specs.History.{Runs, run_cmp, is_next, status_in, changes_between, IsLegal}
use Rattle.history_log.specs.declared.batch.Batch.{Batch}
use Rattle.store_machine.specs.declared.fault.BeginFault.TheVariants as begin
use Rattle.store_machine.specs.declared.fault.AdminFault.{AdminFault}
use Rattle.store_machine.specs.declared.fault.AdminFault.TheVariants as admin
use Rattle.store_machine.specs.State.{MachineState, programs, held_by, begin_answer, is_running, admin_answer}
use Rattle.shared_store.specs.declared.answers.Placed.{Placed}
use Rattle.store_name.specs.declared.snapshot.Snapshot.{Snapshot}
use Rattle.shared_store.specs.declared.answers.SharedBegin.{SharedBegin}
use Rattle.shared_store.specs.declared.answers.SharedBegin.TheVariants as shared
use Rattle.shared_store.specs.Callers.{ACaller}

-- the machine of the application over this history
abbrev pub over : App → List Entry → MachineState
over app history = record { app = app; history = history }

-- ---- a call begins

-- the greatest number of the session's calls that have begun is above k, which has no run
pub record IsNotNext (app : App) (session k last : ℕ) (history : List Entry) : Type 0 where
  pub above : k < last
  pub none : status_in (held_by (over app history)) session k ≡ None
  pub begun : is_some (status_in (held_by (over app history)) session last) ≡ true
  pub greatest : (j : ℕ) → last < j → status_in (held_by (over app history)) session j ≡ None

-- the call has begun, now or before, and this is how far its run is. The place is the end of the history before: where its entry stands, if it is made now
pub record IsBegun (app : App) (session k : ℕ) (method : List ℕ) (params : List Val) (seed : Value) (before after : List Entry) (placed : Placed) : Type 0 where
  pub does : begin_answer (over app before) session k method params seed ≡ Ok (over app after)
  pub place : placed.place ≡ length before
  pub status : status_in (held_by (over app after)) session k ≡ Some placed.status

-- it is begun, or refused and the history stays
abbrev pub Begins : App → ℕ → ℕ → List ℕ → List Val → Value → List Entry → List Entry → Result Placed SharedBegin → Type 0
Begins app session k method params seed before after (Ok placed) = IsBegun app session k method params seed before after placed
Begins app session k method params seed before after (Err (shared.Full entries kept)) =
    (after ≡ before) × (begin_answer (over app before) session k method params seed ≡ Err (begin.Full entries kept))
Begins app session k method params seed before after (Err (shared.NotNext last)) = (after ≡ before) × IsNotNext app session k last before
Begins app session k method params seed before after (Err shared.Memory) = after ≡ before

-- ---- a run makes a step

-- the run goes on, and its next step is made
pub record IsStepped (app : App) (session k : ℕ) (before after : List Entry) (placed : Placed) : Type 0 where
  pub goes : is_running (over app before) session k ≡ true
  pub history : after ≡ before ++ entry.Step session k ∷ []
  pub place : placed.place ≡ length before
  pub status : status_in (held_by (over app after)) session k ≡ Some placed.status

abbrev pub StepsOn : App → ℕ → ℕ → List Entry → List Entry → Result (Option Placed) Mem → Type 0
StepsOn app session k before after (Ok (Some placed)) = IsStepped app session k before after placed
StepsOn app session k before after (Ok None) = (after ≡ before) × (is_running (over app before) session k ≡ false)
StepsOn app session k before after (Err e) = after ≡ before

-- ---- an operation is made

-- the operation is made, and this is the place of its entry
pub record IsMade (app : App) (op : List Val) (before after : List Entry) (place : ℕ) : Type 0 where
  pub does : admin_answer (over app before) op ≡ Ok (over app after)
  pub history : after ≡ before ++ entry.Admin op ∷ []
  pub there : place ≡ length before

abbrev pub Makes : App → List Val → List Entry → List Entry → Result ℕ AdminFault → Type 0
Makes app op before after (Ok place) = IsMade app op before after place
Makes app op before after (Err (admin.Refused code)) = (after ≡ before) × (admin_answer (over app before) op ≡ Err (admin.Refused code))
Makes app op before after (Err admin.Memory) = after ≡ before

-- ---- the history is read

-- how far the call's run is at the history's end, if it was begun
abbrev pub Tells : App → ℕ → ℕ → List Entry → Result (Option Placed) Mem → Type 0
Tells app session k history (Ok (Some placed)) = (status_in (held_by (over app history)) session k ≡ Some placed.status) × (placed.place ≡ length history)
Tells app session k history (Ok None) = status_in (held_by (over app history)) session k ≡ None
Tells app session k history (Err e) = Unit {0}

-- the documents at the history's end
abbrev pub IsShot : App → List Entry → Snapshot → Type 0
IsShot app history shot = (shot.at ≡ length history) × (shot.contents ≡ (held_by (over app history)).rows)

-- the changes of the entries behind the first `from`, at most so many of them
abbrev pub Fetches : App → ℕ → ℕ → List Entry → Result (Option Batch) Mem → Type 0
Fetches app from most history (Ok (Some batch)) =
    let count = min most (length history - from) in
    (from < length history) × (batch ≡ record { from = from; count = count; changes = changes_between (programs app) history from count })
Fetches app from most history (Ok None) = length history ≤ from
Fetches app from most history (Err e) = Unit {0}

-- ---- passes

-- The pass has the whole history behind the call, which is legal. It begins with the list that the pass had.
pub record IsShown (app : App) (before after pass pass' : List Entry) : Type 0 where
  pub seen : IsPrefix pass before
  pub whole : pass' ≡ after
  pub legal : IsLegal (programs app) after

-- The caller made as many entries more as the history has, and its own pass has the history too.
pub record HasCounted (before after : List Entry) (caller caller' : ACaller) : Type 0 where
  pub number : caller'.number ≡ caller.number
  pub made : caller'.made + length before ≡ caller.made + length after
  pub seen : IsPrefix caller.list before
  pub whole : caller'.list ≡ after

-- at the moment of the call the store had a history of which this is so
pub record Once (P : List Entry → Type 0) : Type 0 where
  pub before : List Entry
  pub is : P before

-- why a call can't be begun whose number is not above those of its session's calls
abbrev pub IsTurnedDown : MachineState → ℕ → ℕ → SharedBegin → Type 0
IsTurnedDown m session k (shared.Full entries kept) = ⊥
IsTurnedDown m session k (shared.NotNext last) = IsNotNext m.app session k last m.history
IsTurnedDown m session k shared.Memory = ⊥

-- ---- shared calls: the history at that moment, the caller's passes before and behind the call, and the caller

pub record BeginsAt (app : App) (k : ℕ) (method : List ℕ) (params : List Val) (seed : Value) (before pass pass' : List Entry)
    (caller caller' : ACaller) (result : Result Placed SharedBegin) : Type 0 where
  pub begins : Begins app caller.number k method params seed before pass' result
  pub shown : IsShown app before pass' pass pass'
  pub counted : HasCounted before pass' caller caller'

pub record StepsAt (app : App) (session k : ℕ) (before pass pass' : List Entry) (result : Result (Option Placed) Mem) : Type 0 where
  pub steps : StepsOn app session k before pass' result
  pub shown : IsShown app before pass' pass pass'

pub record MakesAt (app : App) (op : List Val) (before pass pass' : List Entry) (caller caller' : ACaller) (result : Result ℕ AdminFault) : Type 0 where
  pub makes : Makes app op before pass' result
  pub shown : IsShown app before pass' pass pass'
  pub counted : HasCounted before pass' caller caller'
