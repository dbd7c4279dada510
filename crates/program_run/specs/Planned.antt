-- What a step comes to before anything is written: a plan, which a store and the run then carry out.
use Rattle.std.specs.Prelude.{◌≡◌, ℕ, suc, ℤ, List, [], ◌∷◌, ◌++◌, drop, true, Option, None, Some, Result, Ok, Err, if◌then◌else◌}
use Rattle.value_model.specs.Val.{Val, int, text}
use Rattle.ejson_value.specs.Rows.{Rows}
use Rattle.ejson_value.specs.declared.fault.Fault.{Fault}
use Rattle.collection_store.specs.declared.operation.Reply.{Reply}
use Rattle.collection_store.specs.declared.operation.Op.{Op}
use Rattle.collection_store.specs.declared.operation.Op.TheVariants as operation
use Rattle.collection_store.specs.Answered.{applied_as}
use Rattle.collection_store.specs.Applied.{Applied, applied}
use Rattle.collection_store.specs.State.{StoreState}
use Rattle.app_model.specs.App.{App, write_rules}
use Rattle.program_steps.specs.declared.step.ProgramStep.{ProgramStep}
use Rattle.program_steps.specs.declared.rules.Rules.{Rules}
use Rattle.program_steps.specs.Runs.{done, outcome_view}
use Rattle.program_model.specs.Run.{Run, New, gone_on, ended, fails}
use Rattle.program_model.specs.Steps.{Setting, Stepped, unchanged, written, by_answer, done_step}
use Rattle.program_run.specs.declared.plan.Ids.{Ids}
use Rattle.program_run.specs.declared.plan.Plan.{Plan}
use Rattle.program_run.specs.declared.plan.Plan.TheVariants as plan
use Rattle.program_run.specs.declared.run.Effect.{Effect}
use Rattle.program_run.specs.Progress.{Progress, with_left, run_of}

-- the rules of an application; where there is none, no collection has any
abbrev pub rules_of : Option App → List ℕ → Option Rules
rules_of None collection = None
rules_of (Some app) collection = write_rules app collection

-- what steps work on: the collections of a store, the rules, and how many bytes new documents may have
abbrev pub setting_of : Option App → StoreState → ℕ → Setting
setting_of app store room = record { collections = store.names; rules = rules_of app; room = room }

-- what a step left, with the run that it led to
abbrev pub stepped_as : Rows → Effect → Run → Stepped
stepped_as rows effect run = record { rows = rows; changes = effect.changes; touched = effect.touched; run = run }

-- the run of a program of these steps behind the next one
abbrev pub run_behind : List ProgramStep → Progress → Run
run_behind steps p = with_left p (drop (suc p.next) steps)

-- a step that is to leave this left these rows and this run, with this effect
abbrev pub IsStepMade : Stepped → List ProgramStep → Rows → Progress → Effect → Type 0
IsStepMade wanted steps rows p effect = wanted ≡ stepped_as rows effect (run_of steps p)

-- what the answer to an operation leaves, where the run goes on as `next`
abbrev pub answered_as : Rows → Run → (Applied → Run) → Result Reply Fault → Stepped
answered_as rows run next (Ok reply) = written (applied_as rows reply) (next (applied_as rows reply))
answered_as rows run next (Err fault) = unchanged rows (fails fault run)

-- the id that an insert has
abbrev pub inserted_id : Op → Option (List ℕ)
inserted_id (operation.Insert collection id doc) = Some id
inserted_id op = None

-- an insert answers its id, another operation a number
abbrev pub IsAnswer : Option (List ℕ) → Val → Type 0
IsAnswer (Some id) v = v ≡ text id
IsAnswer None v = (z : ℤ) × (v ≡ int z)

-- the ids of a run once it inserted the document
abbrev pub ids_with : Progress → List ℕ → New → Ids
ids_with p collection new = record { made = p.made ++ new.id ∷ []; drawn = if new.is_drawn then p.drawn ++ collection ∷ [] else p.drawn }

abbrev pub progress_with : Option Ids → Progress → Progress
progress_with None p = p
progress_with (Some ids) p = record p { made = ids.made; drawn = ids.drawn }

-- the run with the ids that it has once an operation is made
abbrev pub with_ids : Option Ids → Run → Run
with_ids None run = run
with_ids (Some ids) run = record run { made = ids.made; drawn = ids.drawn }

-- what a plan leaves
abbrev pub planned : Setting → Rows → Run → Plan → Stepped
planned s rows run plan.GoesOn = unchanged rows (gone_on run)
planned s rows run plan.Unblocks = unchanged rows (gone_on (record run { unblocked = true }))
planned s rows run (plan.Ends outcome) = unchanged rows (ended (outcome_view outcome) run)
planned s rows run (plan.Makes op ids) = by_answer rows run (applied s.collections rows op s.room) (λ a. gone_on (with_ids ids run))
planned s rows run (plan.Answers op ids) = by_answer rows run (applied s.collections rows op s.room) (λ a. ended (done (Some a.answer)) (with_ids ids run))

-- The plan is that of the step: whatever room there is, and whatever steps are left, it leaves what the step does.
abbrev pub IsPlan : Option App → StoreState → Progress → ProgramStep → Plan → Type 0
IsPlan app store p step plan = (room : ℕ) (left : List ProgramStep) →
    done_step (setting_of app store room) store.rows (with_left p left) step ≡ planned (setting_of app store room) store.rows (with_left p left) plan

-- where the step looks neither at documents nor at rules
abbrev pub IsPlanAnywhere : Progress → ProgramStep → Plan → Type 0
IsPlanAnywhere p step plan = (app : Option App) (store : StoreState) → IsPlan app store p step plan

-- where it looks at documents alone
abbrev pub IsPlanOver : StoreState → Progress → ProgramStep → Plan → Type 0
IsPlanOver store p step plan = (app : Option App) → IsPlan app store p step plan
