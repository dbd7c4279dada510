-- What the steps of a program do, to documents and to their run.
use Rattle.std.specs.Prelude.{ℕ, pos, List, [], ◌∷◌, ◌++◌, codes, true, false, Option, None, Some, Ok, Err, if◌then◌else◌}
use Rattle.map_model.specs.Maps.{at}
use Rattle.value_model.specs.Val.{Val, text, int}
use Rattle.ejson_value.specs.declared.key.Key.{Key}
use Rattle.ejson_value.specs.declared.change.Change.{Change}
use Rattle.ejson_value.specs.declared.fault.Fault.{Fault}
use Rattle.ejson_value.specs.Key.{key_cmp, key_of}
use Rattle.ejson_value.specs.Rows.{Rows}
use Rattle.selector_match.specs.Query.{Query, no_clauses, clause, at_path, predicate, no_predicates, equal}
use Rattle.modifier_apply.specs.Change.{Modification, changed_by}
use Rattle.modifier_apply.specs.Reading as modifier
use Rattle.collection_store.specs.Outcome.{Outcome as Answer}
use Rattle.collection_store.specs.Applied.{Applied, applied, matching}
use Rattle.collection_store.specs.declared.operation.Op.{Op}
use Rattle.collection_store.specs.declared.operation.Op.TheVariants as operation
use Rattle.program_steps.specs.declared.rules.Action.{Action}
use Rattle.program_steps.specs.declared.rules.Action.TheVariants as action
use Rattle.program_steps.specs.declared.rules.Rules.{Rules}
use Rattle.program_steps.specs.declared.step.ProgramStep.{ProgramStep}
use Rattle.program_steps.specs.declared.step.ProgramStep.TheVariants as step
use Rattle.program_steps.specs.declared.step.Program.{Program}
use Rattle.program_steps.specs.Runs.{done}
use Rattle.program_model.specs.declared.verdict.Verdict.{Verdict}
use Rattle.program_model.specs.declared.verdict.Verdict.TheVariants as verdict
use Rattle.program_model.specs.Faults.{bad_parameters, fault_of, denied_by, not_allowed}
use Rattle.program_model.specs.Guarded.{Write, inserts, updates, removes, id_of, judged, or_none}
use Rattle.program_model.specs.Run.{Run, gone_on, ended, fails, New, new_of, next_id, is_id, inserted, filled_in, selector_in, modifier_in, new_in, begun}

-- what steps work on: the collections, the rules of those that clients write to by themselves, and how many bytes new documents may have
pub record Setting : Type 0 where
  pub collections : List (List ℕ)
  pub rules : List ℕ → Option Rules
  pub room : ℕ

-- what a step leaves: the documents, the changes and the keys that led to them, and the run
pub record Stepped : Type 0 where
  pub rows : Rows
  pub changes : List Change
  pub touched : List Key
  pub run : Run

abbrev pub unchanged : Rows → Run → Stepped
unchanged rows run = record { rows = rows; changes = []; touched = []; run = run }

abbrev pub refused : Rows → Run → Fault → Stepped
refused rows run fault = unchanged rows (fails fault run)

abbrev pub written : Applied → Run → Stepped
written applied run = record { rows = applied.rows; changes = applied.changes; touched = applied.touched; run = run }

-- what an operation answers: the run goes on as `next`, or a refusal ends it
abbrev pub by_answer : Rows → Run → Answer Applied → (Applied → Run) → Stepped
by_answer rows run (Ok applied) next = written applied (next applied)
by_answer rows run (Err refusal) next = refused rows run (fault_of refusal)

-- 400 where what a template was to be filled to can't be made
abbrev pub if_made : {A : Type 0} → Rows → Run → Option A → (A → Stepped) → Stepped
if_made rows run None act = refused rows run bad_parameters
if_made rows run (Some a) act = act a

abbrev pub if_found : Rows → Run → Fault → Rows → Stepped
if_found rows run fault [] = refused rows run fault
if_found rows run fault (row ∷ found) = unchanged rows (gone_on run)

-- ---- guarded steps

-- the selector of the document with this id
abbrev pub with_id : List ℕ → Query
with_id id = clause (at_path (codes "_id" ∷ []) (predicate (equal (text id)) no_predicates)) no_clauses

abbrev pub operation_of : List ℕ → Write → Op
operation_of collection (inserts id doc) = operation.Insert collection id doc
operation_of collection (updates id modifier) = operation.Update collection (with_id id) modifier false
operation_of collection (removes id) = operation.Remove collection (with_id id)

-- a write, and the run once it is made
abbrev pub Writing : Type 0
Writing = Write × Run

-- only operators change a document by its id
abbrev pub update_of : List ℕ → modifier.Reading Modification → Option Write
update_of id (Ok (changed_by cs)) = Some (updates id (changed_by cs))
update_of id outcome = None

abbrev pub insert_writing : List ℕ → Run → Option New → Option Writing
insert_writing collection run None = None
insert_writing collection run (Some new) = Some (inserts new.id new.doc, inserted collection new run)

abbrev pub writing : Run → Option Write → Option Writing
writing run None = None
writing run (Some write) = Some (write, run)

-- the write that the parameters `[doc]`, `[id, modifier]` or `[id]` are
abbrev pub writing_in : List ℕ → Run → Action → List Val → Option Writing
writing_in collection run action.Insert (doc ∷ []) = insert_writing collection run (new_of (next_id run collection) doc)
writing_in collection run action.Update (text id ∷ v ∷ []) = writing run (if is_id id then update_of id (modifier.reading v) else None)
writing_in collection run action.Remove (text id ∷ []) = writing run (if is_id id then Some (removes id) else None)
writing_in collection run a params = None

-- The run ends with what the operation answers; a write to a document that is not there answers 0.
abbrev pub by_verdict : Setting → Rows → Run → List ℕ → Writing → Verdict → Stepped
by_verdict s rows run collection w verdict.Allowed =
    by_answer rows run (applied s.collections rows (operation_of collection w.0) s.room) (λ applied. ended (done (Some applied.answer)) w.1)
by_verdict s rows run collection w verdict.Absent = unchanged rows (ended (done (Some (int (pos 0)))) run)
by_verdict s rows run collection w (verdict.Denied place) = refused rows run (denied_by place)
by_verdict s rows run collection w verdict.NotAllowed = refused rows run not_allowed
by_verdict s rows run collection w verdict.BadRule = refused rows run bad_parameters

abbrev pub by_rules : Setting → Rows → Run → List ℕ → Option Rules → Writing → Stepped
by_rules s rows run collection rules w = by_verdict s rows run collection w (judged (or_none rules) w.0 (at key_cmp rows (key_of collection (id_of w.0))))

-- ---- one step

-- what a step does, where the run has those behind it left
abbrev pub done_step : Setting → Rows → Run → ProgramStep → Stepped
done_step s rows run (step.Insert collection doc) =
    if_made rows run (new_in run collection doc)
    (λ new. by_answer rows run (applied s.collections rows (operation.Insert collection new.id new.doc) s.room) (λ a. gone_on (inserted collection new run)))
done_step s rows run (step.Update collection selector modifier all) =
    if_made rows run (selector_in run selector)
    (λ q. if_made rows run (modifier_in run modifier)
    (λ m. by_answer rows run (applied s.collections rows (operation.Update collection q m all) s.room) (λ a. gone_on run)))
done_step s rows run (step.Remove collection selector) =
    if_made rows run (selector_in run selector) (λ q. by_answer rows run (applied s.collections rows (operation.Remove collection q) s.room) (λ a. gone_on run))
done_step s rows run (step.Require collection selector fault) =
    if_made rows run (selector_in run selector) (λ q. if_found rows run fault (matching collection q rows))
done_step s rows run step.Unblock = unchanged rows (gone_on (record run { unblocked = true }))
done_step s rows run (step.Throw fault) = refused rows run fault
done_step s rows run (step.Return template) = if_made rows run (filled_in run template) (λ v. unchanged rows (ended (done (Some v)) run))
done_step s rows run (step.Guarded collection a) =
    if_made rows run (writing_in collection run a run.params) (λ w. by_rules s rows run collection (s.rules collection) w)

abbrev pub stepped_by : Setting → Rows → Run → List ProgramStep → Stepped
stepped_by s rows run [] = unchanged rows run
stepped_by s rows run (step ∷ steps) = done_step s rows (record run { left = steps }) step

-- the run's next step; a run that has ended makes none
abbrev pub stepped : Setting → Rows → Run → Stepped
stepped s rows run = stepped_by s rows run run.left

-- ---- a whole run

-- one step more: its changes and keys behind those so far
abbrev pub further : Setting → Stepped → Stepped
further s so_far =
    let next = stepped s so_far.rows so_far.run in
    record { rows = next.rows; changes = so_far.changes ++ next.changes; touched = so_far.touched ++ next.touched; run = next.run }

-- as many steps more as there are in the list
abbrev pub all_stepped : Setting → List ProgramStep → Stepped → Stepped
all_stepped s [] so_far = so_far
all_stepped s (step ∷ steps) so_far = all_stepped s steps (further s so_far)

-- every step of the run, up to its end
abbrev pub whole_run : Setting → Rows → Run → Stepped
whole_run s rows run = all_stepped s run.left (unchanged rows run)

-- ---- the simulation of a method at a client (Meteor's guide, "Methods": the stub)

abbrev pub steps_of : Option (List ProgramStep) → List ProgramStep
steps_of None = []
steps_of (Some steps) = steps

abbrev pub stub_of : Option Program → List ProgramStep
stub_of None = []
stub_of (Some program) = steps_of program.stub

-- how many bytes the new documents of one step of a stub may have
abbrev pub stub_room : ℕ
stub_room = 134217728

-- a client's collections have no rules: the stub of a method that rules make has no guarded step
abbrev pub client_setting : List (List ℕ) → Setting
client_setting collections = record { collections = collections; rules = λ collection. None; room = stub_room }

-- what the stub of a method makes of the view, up to its end or its first refusal; what it wrote before stays
abbrev pub simulated : List (List ℕ) → Option Program → List Val → Val → Rows → Stepped
simulated collections program params seed view = whole_run (client_setting collections) view (begun params seed (stub_of program))
