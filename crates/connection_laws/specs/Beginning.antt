-- A call that the store begins, and a step of a run.
use Rattle.std.specs.Prelude.{◌≡◌, ℕ, List, [], ◌++◌, length, Option, None, Some, Result, Ok, Err}
use Rattle.program_steps.specs.declared.outcome.Status.{Status}
use Rattle.app_model.specs.App.{App}
use Rattle.world_invariant_laws.specs.history_model.declared.entry.Entry.{Entry}
use Rattle.world_invariant_laws.specs.history_model.History.{begins}
use Rattle.store_machine.specs.declared.fault.BeginFault.{BeginFault}
use Rattle.store_machine.specs.declared.fault.BeginFault.TheVariants as fault
use Rattle.store_machine.specs.State.{MachineState}
use Rattle.world_invariant_laws.specs.session_model.Methods.{Blocking}
use Rattle.world_invariant_laws.specs.world_model.declared.events.Act.TheVariants as act
use Rattle.world_invariant_laws.specs.world_model.declared.events.Answer.TheVariants as answer
use Rattle.world_invariant_laws.specs.world_model.Acts.{outcome, entries}
use Rattle.connection_laws.specs.Connection.{AConnection, as_conn}
use Rattle.connection_laws.specs.Acting.{with_refusal, IsDone}

-- ---- runs

-- the machine of an application and its history
abbrev pub machine : App → List Entry → MachineState
machine app history = record { app = app; history = history }

-- ---- a step

-- The machine makes the step where the run goes on, and else tells of none.
abbrev pub MakesStepping : {E : Type 0} → App → List ℕ → List Entry → ℕ → AConnection → MachineState → Result (Option Status) E → Type 0
MakesStepping app name history k old next (Ok (Some status)) =
    IsDone app name history (act.Step k) old old × (next ≡ machine app (history ++ entries app history (as_conn old) (act.Step k)))
MakesStepping app name history k old next (Ok None) = (outcome app history (as_conn old) (act.Step k) ≡ answer.Idle) × (next ≡ machine app history)
MakesStepping app name history k old next (Err e) = Unit {0}

-- ---- a call begins

-- With the call the history has one entry more; or it has no room, and the refusal is kept.
abbrev pub MakesBeginning : {X : Type 0} → App → List ℕ → List Entry → Blocking → AConnection → MachineState → Result X BeginFault → Type 0
MakesBeginning app name history b old next (Ok x) =
    IsDone app name history act.Begin old old × (next ≡ machine app (history ++ entries app history (as_conn old) act.Begin))
MakesBeginning app name history b old next (Err (fault.Full many kept)) =
    IsDone app name history act.Begin old (with_refusal b.k (length history) old) × (entries app history (as_conn old) act.Begin ≡ [])
MakesBeginning app name history b old next (Err fault.Memory) = Unit {0}
