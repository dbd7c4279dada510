-- How a list is read as a step of a program: its first element says what the step does, and the others are what it does it with.
-- A template is any value: what can't be made of it is told when a run fills it.
-- A code is a text, or a whole number, which is taken as its decimal text.
use Rattle.std.specs.Prelude.{ℕ, Bool, true, false, List, Option, None, Some, Ok, codes, length, slice_get, if◌then◌else◌, ◌==◌}
use Rattle.std.specs.Fmt.{signed_decimal}
use Rattle.value_model.specs.Val.{Val, int, text, list, list_of}
use Rattle.value_model.specs.Size.{is_name}
use Rattle.ejson_value.specs.Results.{made, and_then}
use Rattle.ejson_value.specs.declared.fault.Fault.{Fault}
use Rattle.program_steps.specs.declared.step.ProgramStep.{ProgramStep}
use Rattle.program_steps.specs.declared.step.ProgramStep.TheVariants as step
use Rattle.program_reading.specs.declared.fault.Flaw.TheVariants as flaw
use Rattle.program_reading.specs.declared.steps.StepForm.{StepForm}
use Rattle.program_reading.specs.declared.steps.StepForm.TheVariants as form
use Rattle.program_reading.specs.Faults.{Place, element, Reading, bad}
use Rattle.program_reading.specs.Names.{known_reading}

abbrev pub form_named : List ℕ → Option StepForm
form_named name =
    if is_name name (codes "insert") then Some form.Insert else (
    if is_name name (codes "update") then Some form.Update else (
    if is_name name (codes "updateAll") then Some form.UpdateAll else (
    if is_name name (codes "remove") then Some form.Remove else (
    if is_name name (codes "require") then Some form.Require else (
    if is_name name (codes "unblock") then Some form.Unblock else (
    if is_name name (codes "throw") then Some form.Throw else (
    if is_name name (codes "return") then Some form.Return else None)))))))

-- how many elements the list has: `["insert",collection,document]`, `["update",collection,selector,modifier]`,
-- `["updateAll",collection,selector,modifier]`, `["remove",collection,selector]`, `["require",collection,selector,code,reason]`, `["unblock"]`,
-- `["throw",code,reason]`, `["return",result]`
abbrev pub length_of : StepForm → ℕ
length_of form.Insert = 3
length_of form.Update = 4
length_of form.UpdateAll = 4
length_of form.Remove = 3
length_of form.Require = 5
length_of form.Unblock = 1
length_of form.Throw = 3
length_of form.Return = 2

abbrev pub if_long : ℕ → Option StepForm → Option StepForm
if_long n None = None
if_long n (Some f) = if n == length_of f then Some f else None

abbrev pub form_at : ℕ → Option Val → Option StepForm
form_at n (Some (text name)) = if_long n (form_named name)
form_at n _ = None

-- what a step with these elements does
abbrev pub form_of : List Val → Option StepForm
form_of vs = form_at (length vs) (slice_get vs 0)

abbrev pub template_reading : Place → Option Val → Reading Val
template_reading place None = bad flaw.BadShape place
template_reading place (Some v) = Ok v

abbrev pub code_reading : Place → Option Val → Reading (List ℕ)
code_reading place (Some (text code)) = Ok code
code_reading place (Some (int z)) = Ok (signed_decimal z)
code_reading place _ = bad flaw.BadShape place

abbrev pub reason_reading : Place → Option Val → Reading (List ℕ)
reason_reading place (Some (text reason)) = Ok reason
reason_reading place _ = bad flaw.BadShape place

-- the error with the code and the reason that stand at these places in the step
abbrev pub fault_reading : Place → List Val → ℕ → ℕ → Reading Fault
fault_reading place vs c r =
    and_then (code_reading (element place c) (slice_get vs c)) (λ code.
    and_then (reason_reading (element place r) (slice_get vs r)) (λ reason. Ok (record { code = code; reason = reason })))

-- the collection that a step works on
abbrev pub collection_reading : List (List ℕ) → Place → List Val → Reading (List ℕ)
collection_reading collections place vs = known_reading collections (element place 1) (slice_get vs 1)

abbrev pub insert_reading : List (List ℕ) → Place → List Val → Reading ProgramStep
insert_reading collections place vs =
    and_then (collection_reading collections place vs) (λ collection.
    and_then (template_reading place (slice_get vs 2)) (λ doc. Ok (step.Insert collection doc)))

abbrev pub update_reading : List (List ℕ) → Place → List Val → Bool → Reading ProgramStep
update_reading collections place vs all =
    and_then (collection_reading collections place vs) (λ collection.
    and_then (template_reading place (slice_get vs 2)) (λ selector.
    and_then (template_reading place (slice_get vs 3)) (λ modifier. Ok (step.Update collection selector modifier all))))

abbrev pub remove_reading : List (List ℕ) → Place → List Val → Reading ProgramStep
remove_reading collections place vs =
    and_then (collection_reading collections place vs) (λ collection.
    and_then (template_reading place (slice_get vs 2)) (λ selector. Ok (step.Remove collection selector)))

abbrev pub require_reading : List (List ℕ) → Place → List Val → Reading ProgramStep
require_reading collections place vs =
    and_then (collection_reading collections place vs) (λ collection.
    and_then (template_reading place (slice_get vs 2)) (λ selector.
    and_then (fault_reading place vs 3 4) (λ fault. Ok (step.Require collection selector fault))))

abbrev pub form_reading : List (List ℕ) → Place → List Val → StepForm → Reading ProgramStep
form_reading collections place vs form.Insert = insert_reading collections place vs
form_reading collections place vs form.Update = update_reading collections place vs false
form_reading collections place vs form.UpdateAll = update_reading collections place vs true
form_reading collections place vs form.Remove = remove_reading collections place vs
form_reading collections place vs form.Require = require_reading collections place vs
form_reading collections place vs form.Unblock = Ok step.Unblock
form_reading collections place vs form.Throw = made (λ fault. step.Throw fault) (fault_reading place vs 1 2)
form_reading collections place vs form.Return = made (λ result. step.Return result) (template_reading place (slice_get vs 1))

abbrev pub if_formed : List (List ℕ) → Place → List Val → Option StepForm → Reading ProgramStep
if_formed collections place vs None = bad flaw.BadShape place
if_formed collections place vs (Some f) = form_reading collections place vs f

-- a step with these elements
abbrev pub elements_reading : List (List ℕ) → Place → List Val → Reading ProgramStep
elements_reading collections place vs = if_formed collections place vs (form_of vs)

-- the step at this place
abbrev pub step_reading : List (List ℕ) → Place → Val → Reading ProgramStep
step_reading collections place (list vs) = elements_reading collections place (list_of vs)
step_reading collections place v = bad flaw.BadShape place
