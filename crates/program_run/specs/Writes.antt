-- A client's own writes, as they are read from the parameters of a run.
use Rattle.std.specs.Prelude.{◌≡◌, ◌==◌, ℕ, List, length, slice_get, Option, None, Some, option_and_then, option_map, if◌then◌else◌}
use Rattle.value_model.specs.Val.{Val}
use Rattle.selector_match.specs.Named.{text_in}
use Rattle.modifier_apply.specs.Reading.{reading}
use Rattle.ejson_value.specs.Rows.{Rows}
use Rattle.program_steps.specs.declared.rules.Action.{Action}
use Rattle.program_steps.specs.declared.step.ProgramStep.{ProgramStep}
use Rattle.program_steps.specs.Runs.{Outcome}
use Rattle.program_model.specs.declared.verdict.Verdict.{Verdict}
use Rattle.program_model.specs.declared.verdict.Verdict.TheVariants as verdict
use Rattle.program_model.specs.Guarded.{Write, removes}
use Rattle.program_model.specs.Run.{Run, is_id, ended}
use Rattle.program_model.specs.Steps.{Setting, unchanged, update_of, writing_in, by_verdict, Writing as AWriting}
use Rattle.program_run.specs.Acts.{write_of}
use Rattle.program_run.specs.declared.guarded.Writing.{Writing}
use Rattle.program_run.specs.declared.plan.Plan.{Plan}
use Rattle.program_run.specs.Progress.{Progress, with_left}
use Rattle.program_run.specs.Planned.{with_ids, planned}

-- the only one of the parameters; the second of two
abbrev pub only : List Val → Option Val
only ps = if length ps == 1 then slice_get ps 0 else None

abbrev pub second : List Val → Option Val
second ps = if length ps == 2 then slice_get ps 1 else None

-- `[id, modifier]`
abbrev pub update_by : Option (List ℕ) → Option Val → Option Write
update_by (Some id) (Some v) = if is_id id then update_of id (reading v) else None
update_by _ _ = None

abbrev pub update_in : List Val → Option Write
update_in ps = update_by (option_and_then text_in (slice_get ps 0)) (second ps)

-- `[id]`
abbrev pub remove_by : Option (List ℕ) → Option Write
remove_by (Some id) = if is_id id then Some (removes id) else None
remove_by None = None

abbrev pub remove_in : List Val → Option Write
remove_in ps = remove_by (option_and_then text_in (only ps))

-- the write, and the run once it is made
abbrev pub writing_as : Run → Writing → AWriting
writing_as run w = (write_of w.act, with_ids w.ids run)

-- what was read is the write of the run's parameters
abbrev pub IsWriting : Progress → List ℕ → Action → Option Writing → Type 0
IsWriting p collection a o = (left : List ProgramStep) → writing_in collection (with_left p left) a p.params ≡ option_map (writing_as (with_left p left)) o

-- the plan ends the run with this outcome
abbrev pub IsEnd : Outcome → Plan → Type 0
IsEnd outcome plan = (s : Setting) (rows : Rows) (run : Run) → planned s rows run plan ≡ unchanged rows (ended outcome run)

-- the plan is what a verdict on the write leads to
abbrev pub IsVerdictPlan : List ℕ → Writing → Verdict → Plan → Type 0
IsVerdictPlan collection w v plan = (s : Setting) (rows : Rows) (run : Run) → by_verdict s rows run collection (writing_as run w) v ≡ planned s rows run plan

-- a verdict that refuses leads to the plan whatever the write is, and none is there where it allows
abbrev pub IsRefusal : Verdict → Option Plan → Type 0
IsRefusal v (Some plan) = (collection : List ℕ) (w : Writing) → IsVerdictPlan collection w v plan
IsRefusal v None = v ≡ verdict.Allowed
