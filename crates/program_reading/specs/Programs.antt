-- How an object is read as a program: `{"steps":[step..],"stub":true|[step..]}`. `true` stands for the same steps, and a program without `stub` has no stub.
use Rattle.std.specs.Prelude.{ℕ, Bool, false, not, List, [], ◌∷◌, ◌++◌, length, codes, Option, None, Some, Ok, is_some, nat_lt, if◌then◌else◌, ◌&&◌}
use Rattle.value_model.specs.Val.{Val, boolean, list, object, Vals, no_vals, val, Fields, list_of}
use Rattle.value_model.specs.Branches.{field_of}
use Rattle.ejson_value.specs.Results.{made, and_then}
use Rattle.program_steps.specs.declared.step.ProgramStep.{ProgramStep}
use Rattle.program_steps.specs.declared.step.Program.{Program}
use Rattle.program_reading.specs.declared.fault.Flaw.TheVariants as flaw
use Rattle.program_reading.specs.declared.names.Shape.TheVariants as shape
use Rattle.program_reading.specs.Faults.{Place, below, element, Reading, bad}
use Rattle.program_reading.specs.Names.{is_valid_name, has_only_keys}
use Rattle.program_reading.specs.Steps.{step_reading}

-- the most steps of a list
abbrev pub max_steps : ℕ
max_steps = 64

-- more steps, behind those so far
abbrev pub steps_behind : List (List ℕ) → Place → List ProgramStep → Vals → Reading (List ProgramStep)
steps_behind collections place steps no_vals = Ok steps
steps_behind collections place steps (val v vs) =
    and_then (step_reading collections (element place (length steps)) v) (λ s. steps_behind collections place (steps ++ s ∷ []) vs)

abbrev pub steps_reading : List (List ℕ) → Place → Val → Reading (List ProgramStep)
steps_reading collections place (list vs) = if nat_lt max_steps (length (list_of vs)) then bad flaw.TooMany place else steps_behind collections place [] vs
steps_reading collections place v = bad flaw.BadShape place

abbrev pub own_steps_reading : List (List ℕ) → Place → Option Val → Reading (List ProgramStep)
own_steps_reading collections place None = bad flaw.BadShape place
own_steps_reading collections place (Some v) = steps_reading collections place v

abbrev pub is_true : Val → Bool
is_true (boolean b) = b
is_true v = false

abbrev pub stub_reading : List (List ℕ) → Place → List ProgramStep → Option Val → Reading (Option (List ProgramStep))
stub_reading collections place steps None = Ok None
stub_reading collections place steps (Some v) = if is_true v then Ok (Some steps) else made (λ stub. Some stub) (steps_reading collections place v)

abbrev pub is_program : Fields → Bool
is_program fs = has_only_keys shape.Program fs && is_some (field_of fs (codes "steps"))

abbrev pub parts_reading : List (List ℕ) → Place → Fields → Reading Program
parts_reading collections place fs =
    and_then (own_steps_reading collections (below place (codes "steps")) (field_of fs (codes "steps"))) (λ steps.
    and_then (stub_reading collections (below place (codes "stub")) steps (field_of fs (codes "stub"))) (λ stub.
    Ok (record { steps = steps; stub = stub })))

-- the program of the method of this name
abbrev pub program_reading : List (List ℕ) → Place → List ℕ → Val → Reading Program
program_reading collections place name (object fs) =
    if not (is_program fs) then bad flaw.BadShape place else (
    if is_valid_name name then parts_reading collections place fs else bad flaw.BadName place)
program_reading collections place name v = bad flaw.BadShape place
