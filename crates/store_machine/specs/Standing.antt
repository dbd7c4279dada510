-- What a machine keeps: all that its history leads to.
use Rattle.std.specs.Prelude.{◌≡◌, ℕ, ◌<◌, ◌^◌, List, nat_le, true, Option, None, Some, is_some, option_map, if◌then◌else◌}
use Rattle.std.specs.Ordering.{eq_by_cmp}
use Rattle.map_model.specs.Maps.{at}
use Rattle.value_model.specs.Val.{Val}
use Rattle.ejson_value.specs.declared.value.Value.{Value}
use Rattle.app_model.specs.App.{App, method}
use Rattle.program_steps.specs.declared.outcome.Status.{Status}
use Rattle.program_steps.specs.Runs.{Outcome, End}
use Rattle.program_model.specs.Steps.{stepped}
use Rattle.program_run.specs.Progress.{run_of}
use Rattle.program_run.specs.Planned.{setting_of}
use Rattle.collection_store.specs.State.{StoreState}
use Rattle.history_model.specs.History.{RunKey, run_cmp, Begun, status_of, steps_of}
use Rattle.history_log.specs.Log.{entries_in}
use Rattle.store_machine.specs.Places.{Life, Lives, is_by, told, noted}
use Rattle.store_machine.specs.Keeping.{Kept, Keeps, with_begun}
use Rattle.store_machine.specs.declared.called.Called.{Called}
use Rattle.store_machine.specs.declared.called.Made.{Made}
use Rattle.store_machine.specs.declared.parts.Parts.{Parts}
use Rattle.store_machine.specs.State.{MachineState, programs}

-- ---- calls

-- how an end is told
abbrev pub end_in : Option Outcome → ℕ → Option End
end_in o at = option_map (λ o. let e : End = record { outcome = o; at = at } in e) o

abbrev pub called_by : ℕ → Called → Option Status
called_by place c = if nat_le c.begun place then Some (told (is_by place c.unblocked) (if nat_le c.at place then end_in c.run.outcome c.at else None)) else None

-- the run of a call of the application
abbrev pub begun_of : App → Called → Begun
begun_of app c = record { run = run_of (steps_of (method app c.method)) c.run; at = c.at }

abbrev pub life_of : App → Called → Life
life_of app c = record { begun = c.begun; unblocked = c.unblocked; now = begun_of app c }

abbrev pub Calls : Type 0
Calls = List (RunKey × Called)

abbrev pub lives_of : App → Calls → Lives
lives_of app calls key = option_map (life_of app) (at run_cmp calls key)

-- the call after a step whose entry is at the place
abbrev pub IsNoted : ℕ → Called → Called → Type 0
IsNoted place old new = new ≡ record old { run = new.run; at = place; unblocked = noted old.unblocked new.run.unblocked place }

-- A step of the call's run was made: the store, the changes and the run are what it leaves.
pub record HasStepped (app : App) (store : StoreState) (old : Called) (room place : ℕ) (store' : StoreState) (new : Called) (made : Made) : Type 0 where
  pub rows : store'.rows ≡ (stepped (setting_of (Some app) store room) store.rows (begun_of app old).run).rows
  pub changes : made.changes ≡ (stepped (setting_of (Some app) store room) store.rows (begun_of app old).run).changes
  pub run : (begun_of app new).run ≡ (stepped (setting_of (Some app) store room) store.rows (begun_of app old).run).run
  pub noted : IsNoted place old new
  pub status : made.status ≡ status_of (begun_of app new)
  pub names : store'.names ≡ store.names

-- the calls with this one in the place of the key's
abbrev pub IsPut : Calls → RunKey → Called → Calls → Type 0
IsPut calls key new calls' = (q : RunKey) → at run_cmp calls' q ≡ (if eq_by_cmp run_cmp q key then Some new else at run_cmp calls q)

-- the step was that of the key's call
pub record HasSteppedAt (app : App) (store : StoreState) (calls : Calls) (key : RunKey) (room place : ℕ) (store' : StoreState) (calls' : Calls)
    (made : Made) : Type 0 where
  pub old : Called
  pub new : Called
  pub was : at run_cmp calls key ≡ Some old
  pub put : IsPut calls key new calls'
  pub stepped : HasStepped app store old room place store' new made

abbrev pub AreSame : Calls → Calls → Type 0
AreSame calls calls' = (q : RunKey) → at run_cmp calls' q ≡ at run_cmp calls q

-- of the numbers below 2^64, the greatest that one of the session's calls has
abbrev pub IsLastAmong : Calls → ℕ → Option ℕ → Type 0
IsLastAmong calls session (Some last) =
    (is_some (at run_cmp calls (session, last)) ≡ true) × ((k : ℕ) → last < k → k < 2 ^ 64 → at run_cmp calls (session, k) ≡ None)
IsLastAmong calls session None = (k : ℕ) → k < 2 ^ 64 → at run_cmp calls (session, k) ≡ None

-- ---- the machine's parts

-- what contracts see of an application with its parts
abbrev pub seen : App → Parts → MachineState
seen app p = record { app = app; history = entries_in p.log }

-- what is kept, seen by the lives of runs
abbrev pub kept_of : App → Parts → Kept
kept_of app p = record { rows = p.store.rows; lives = lives_of app p.calls.entries; bytes = p.kept; steps = p.reserved; log = p.log }

-- what is kept where a call and its entry are put there, its bytes and its steps not counted yet
abbrev pub uncounted : App → Parts → ℕ → ℕ → List ℕ → List Val → Value → Kept
uncounted app p session k name params seed =
    record (with_begun (programs app) (kept_of app p) session k name params seed) { bytes = p.kept; steps = p.reserved }

-- the parts are what the history of their log leads to, over the application's collections
pub record Stand (app : App) (p : Parts) : Type 0 where
  pub names : p.store.names ≡ app.collections
  pub keeps : Keeps (programs app) (entries_in p.log) (kept_of app p)
