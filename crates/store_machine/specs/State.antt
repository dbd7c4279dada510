-- The machine of a store as contracts see it: its application and its history, and nothing else. Its documents and runs are what the history leads to.
use Rattle.std.specs.Prelude.{◌≡◌, ℕ, ◌<◌, List, [], ◌∷◌, ◌++◌, length, Bool, true, Option, None, Some, is_some, Result, Ok, Err, if◌then◌else◌}
use Rattle.map_model.specs.Maps.{at}
use Rattle.value_model.specs.Val.{Val}
use Rattle.ejson_value.specs.View.{view}
use Rattle.ejson_value.specs.Measure.{capped}
use Rattle.ejson_value.specs.declared.value.Value.{Value}
use Rattle.app_model.specs.App.{App, method}
use Rattle.collection_store.specs.declared.operation.Op.{Op}
use Rattle.collection_store.specs.Outcome.{Outcome, code_of}
use Rattle.collection_store.specs.Applied.{Applied, applied}
use Rattle.history_model.specs.declared.entry.Entry.{Entry}
use Rattle.history_model.specs.declared.entry.Entry.TheVariants as entry
use Rattle.history_model.specs.Operations.{operation_in}
pub use Rattle.history_model.specs.Programs.{programs}
use Rattle.history_model.specs.History.{Held, run_cmp, steps_of, goes_on, room_in, held, held_at, status_in, entries_with, kept_with, is_full}
use Rattle.history_model.specs.History.{is_full_for_operation}
use Rattle.store_machine.specs.declared.fault.BeginFault.{BeginFault}
use Rattle.store_machine.specs.declared.fault.BeginFault.TheVariants as begin
use Rattle.store_machine.specs.declared.fault.AdminFault.{AdminFault}
use Rattle.store_machine.specs.declared.fault.AdminFault.TheVariants as admin

pub record MachineState : Type 0 where
  pub app : App
  pub history : List Entry

abbrev pub held_by : MachineState → Held
held_by m = held (programs m.app) m.history

abbrev pub held_after : MachineState → ℕ → Held
held_after m place = held_at (programs m.app) m.history place

abbrev pub with_entry : MachineState → Entry → MachineState
with_entry m e = record m { history = m.history ++ e ∷ [] }

-- ---- calls

-- 503, with how many entries there would be, those to come counted, and how many bytes would be kept; each 2^64 - 1 where there are more
abbrev pub full_with : MachineState → List ℕ → List Val → Val → BeginFault
full_with m name params seed =
    begin.Full (capped (entries_with (held_by m) (length (steps_of (method m.app name))))) (capped (kept_with (held_by m) params seed))

-- what beginning a call leaves: nothing new where it has a run, and else its entry, unless the history is full
abbrev pub begin_answer : MachineState → ℕ → ℕ → List ℕ → List Val → Value → Result MachineState BeginFault
begin_answer m session k name params seed =
    if is_some (status_in (held_by m) session k) then Ok m else (
    if is_full (programs m.app) (held_by m) name params (view seed) then Err (full_with m name params (view seed)) else
    Ok (with_entry m (entry.Begin session k name params seed)))

-- the call has begun, and has not ended
abbrev pub is_running : MachineState → ℕ → ℕ → Bool
is_running m session k = goes_on (at run_cmp (held_by m).runs (session, k))

-- the greatest number of the session's calls that have begun, None where none has
abbrev pub IsLastBegun : MachineState → ℕ → Option ℕ → Type 0
IsLastBegun m session (Some last) = (is_some (status_in (held_by m) session last) ≡ true) × ((k : ℕ) → last < k → status_in (held_by m) session k ≡ None)
IsLastBegun m session None = (k : ℕ) → status_in (held_by m) session k ≡ None

-- what a step leaves: its entry, where its run goes on
abbrev pub step_state : MachineState → ℕ → ℕ → MachineState
step_state m session k = if is_running m session k then with_entry m (entry.Step session k) else m

-- ---- operations

abbrev pub refusal_of : Option ℕ → AdminFault
refusal_of (Some code) = admin.Refused code
refusal_of None = admin.Memory

abbrev pub by_answer : MachineState → List Val → Outcome Applied → Result MachineState AdminFault
by_answer m op (Ok applied) = Ok (with_entry m (entry.Admin op))
by_answer m op (Err refusal) = Err (refusal_of (code_of refusal))

-- 400 where it is no operation
abbrev pub by_operation : MachineState → List Val → Option Op → Result MachineState AdminFault
by_operation m op None = Err (admin.Refused 400)
by_operation m op (Some o) = by_answer m op (applied m.app.collections (held_by m).rows o (room_in (held_by m)))

-- what an operation leaves: its entry, or a refusal: 503 where the history is full, then 400, then the store's
abbrev pub admin_answer : MachineState → List Val → Result MachineState AdminFault
admin_answer m op = if is_full_for_operation (held_by m) then Err (admin.Refused 503) else by_operation m op (operation_in op)

-- ---- answers

-- The call answers as the definition says, or want of memory.
abbrev pub BeginGives : {T X : Type 0} → (T → X) → Result T BeginFault → Result X BeginFault → Type 0
BeginGives f (Ok t) r = r ≡ Ok (f t)
BeginGives f (Err begin.Memory) r = Unit {0}
BeginGives f (Err e) r = r ≡ Err e

abbrev pub AdminGives : {T X : Type 0} → (T → X) → Result T AdminFault → Result X AdminFault → Type 0
AdminGives f (Ok t) r = r ≡ Ok (f t)
AdminGives f (Err admin.Memory) r = Unit {0}
AdminGives f (Err e) r = r ≡ Err e
