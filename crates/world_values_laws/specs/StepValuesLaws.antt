-- Laws: A step of values leaves documents, and what its run ends with is a value.
use Rattle.std.specs.Prelude.{◌≡◌, ℕ, List, [], ◌∷◌, codes, Bool, true, false, nat_lt, Option, None, Some, IfSome, Result, Ok, Err, IfOk}
use Rattle.std.specs.Prelude.{option_and_then, refl, if◌then◌else◌}
use Rattle.std.specs.BTreeMap.{is_at}
use Rattle.std.proofs.Common.{subst, sym, arith}
use Rattle.std.proofs.lemmas.Bool.{ltb-false}
use Rattle.map_model.specs.Maps.{at}
use Rattle.map_model.specs.MapLaws.{sorted-remove}
use Rattle.value_model.specs.Val.{Val, text, object, Fields, Entries, vals_of, entries_of}
use Rattle.value_model.specs.ValLaws.{fields_of-entries_of}
use Rattle.value_model.specs.ValidLaws.{HaveValues-remove}
use Rattle.value_model.specs.Order.{text_cmp}
use Rattle.value_model.specs.Depth.{depth}
use Rattle.value_model.specs.Size.{size}
use Rattle.value_model.specs.Valid.{IsValue, AreValues, HaveValues, IsDocument}
use Rattle.value_model.specs.Doc.{get, remove}
use Rattle.ejson_value.specs.declared.fault.Fault.{Fault}
use Rattle.ejson_value.specs.Key.{key_cmp, key_of, name_order}
use Rattle.ejson_value.specs.Rows.{Rows}
use Rattle.ddp_messages.specs.Limits.{IsShallow}
use Rattle.modifier_apply.specs.Change.{Modification, replaced_by, changed_by}
use Rattle.modifier_apply.specs.Reading as modifier
use Rattle.collection_store.specs.declared.operation.Op.{Op}
use Rattle.collection_store.specs.declared.operation.Op.TheVariants as operation
use Rattle.collection_store.specs.Outcome.{Outcome}
use Rattle.collection_store.specs.Applied.{Applied, applied, matching}
use Rattle.program_steps.specs.declared.fault.FillFault.TheVariants as fault
use Rattle.program_steps.specs.Template.{Filling, max_depth, max_size, filling, limited, filled}
use Rattle.program_steps.specs.declared.rules.Action.{Action}
use Rattle.program_steps.specs.declared.rules.Action.TheVariants as action
use Rattle.program_steps.specs.declared.step.ProgramStep.{ProgramStep}
use Rattle.program_steps.specs.declared.step.ProgramStep.TheVariants as step
use Rattle.program_steps.specs.Runs.{done as ended_with}
use Rattle.world_model.specs.program_model.declared.verdict.Verdict.{Verdict}
use Rattle.world_model.specs.program_model.declared.verdict.Verdict.TheVariants as verdict
use Rattle.world_model.specs.program_model.Guarded.{removes, judged, or_none, id_of}
use Rattle.world_model.specs.program_model.Run.{Run, if_over, gone_on, ended, New, new_by, new_of, next_id, is_id, inserted, if_ok, filled_in}
use Rattle.world_model.specs.program_model.Run.{selector_in, modifier_in, new_in}
use Rattle.world_model.specs.program_model.Steps.{Setting, Stepped, by_answer, if_made, if_found, Writing, insert_writing, writing, writing_in}
use Rattle.world_model.specs.program_model.Steps.{update_of, operation_of, by_verdict, done_step, stepped_by, stepped}
use Rattle.world_model.specs.session_model.Kept.{IsResult}
use Rattle.world_values_laws.specs.ModifierValues.{IsModification}
use Rattle.world_values_laws.specs.ModifierValuesLaws.{read_modification}
use Rattle.world_values_laws.specs.TemplateValuesLaws.{filled_value}
use Rattle.world_values_laws.specs.Values.{IsStep, AreSteps, AreSound, IsSound}
use Rattle.world_values_laws.specs.OperationValues.{IsOperation, IsApplied}
use Rattle.world_values_laws.specs.OperationValuesLaws.{number_is, applied_is}
use Rattle.world_values_laws.specs.StepValues.{IsNew, IsStepped, IsWriting}

-- ---- runs that go on, and that end

gone : (left : List ProgramStep) (run : Run) → IsSound run → IsSound (if_over left run)
gone [] run s = record { params = s.params; left = s.left; outcome = tt }
gone (step ∷ steps) run s = s

sound_gone : (run : Run) → IsSound run → IsSound (gone_on run)
sound_gone run s = gone run.left run s

sound_inserted : (collection : List ℕ) (new : New) (run : Run) → IsSound run → IsSound (inserted collection new run)
sound_inserted collection new run s = record { params = s.params; left = s.left; outcome = s.outcome }

refused_is : (rows : Rows) (run : Run) → AreSound rows → IsSound run → (fault : Fault) → IsStepped (if_found rows run fault [])
refused_is rows run all s fault = record { rows = all; run = record { params = s.params; left = tt; outcome = tt } }

unchanged_is : (rows : Rows) (run : Run) → AreSound rows → IsSound run → IsStepped (record { rows = rows; changes = []; touched = []; run = run })
unchanged_is rows run all s = record { rows = all; run = s }

-- ---- templates

if_fine : {A E : Type 0} (P : A → Type 0) (r : Result A E) → IfOk r P → IfSome (if_ok r) P
if_fine P (Ok a) p = p
if_fine P (Err e) p = tt

within : (v : Val) (b : Bool) → nat_lt max_depth (depth v) ≡ b →
    IfOk (let r : Filling Val = (if b then Err fault.TooDeep else (if nat_lt max_size (size v) then Err fault.TooLarge else Ok v)) in r) IsShallow
within v true is = tt
within v false is =
    let few = ltb-false max_depth (depth v) is in
    elim (nat_lt max_size (size v)) as
    (λ (b : Bool). IfOk (let r : Filling Val = (if b then Err fault.TooLarge else Ok v) in r) IsShallow) [ true ↦ tt | false ↦ omega (arith, few) ]

limited_shallow : (r : Filling Val) → IfOk (limited r) IsShallow
limited_shallow (Err e) = tt
limited_shallow (Ok v) = within v (nat_lt max_depth (depth v)) refl

both_fine : (r : Filling Val) → IfOk r IsValue → IfOk r IsShallow → IfOk r IsResult
both_fine (Ok v) a b = (a, b)
both_fine (Err e) a b = tt

-- what a template of values is filled to
filled_is : (run : Run) (template : Val) → IsSound run → IsValue template → IfSome (filled_in run template) IsResult
filled_is run template s v =
    let r = filled run.params run.made template in
    if_fine IsResult r (both_fine r (filled_value run.params run.made template s.params v) (limited_shallow (filling run.params run.made template)))

-- ---- new documents

fields_of_object : (fs : Fields) → IsValue (object fs) → IsDocument (entries_of fs)
fields_of_object fs is = record { names = is.0; values = subst HaveValues (sym (fields_of-entries_of fs)) is.1 }

without_id : (fields : Entries) → IsDocument fields → IsDocument (remove fields (codes "_id"))
without_id fields d =
    record { names = sorted-remove name_order fields (codes "_id") d.names; values = HaveValues-remove (is_at (text_cmp (codes "_id"))) fields d.values }

if_id : (b : Bool) (id : List ℕ) (doc : Entries) → IsDocument doc → IfSome (if b then Some (record { id = id; is_drawn = false; doc = doc }) else None) IsNew
if_id true id doc d = d
if_id false id doc d = tt

new_by_is : (next : List ℕ) (fields : Entries) (o : Option Val) → IsDocument fields → IfSome (new_by next fields o) IsNew
new_by_is next fields None d = d
new_by_is next fields (Some (text id)) d = if_id (is_id id) id (remove fields (codes "_id")) (without_id fields d)
new_by_is next fields (Some v) d = tt

pub new_is : (next : List ℕ) (v : Val) → IsValue v → IfSome (new_of next v) IsNew
new_is next (object fs) is = new_by_is next (entries_of fs) (get (entries_of fs) (codes "_id")) (fields_of_object fs is)
new_is next v is = tt

new_filled : (next : List ℕ) (o : Option Val) → IfSome o IsResult → IfSome (option_and_then (new_of next) o) IsNew
new_filled next None is = tt
new_filled next (Some v) is = new_is next v is.0

-- ---- modifiers

pub modifier_is : (v : Val) → IsValue v → IfSome (if_ok (modifier.reading v)) IsModification
modifier_is v is = if_fine IsModification (modifier.reading v) (read_modification v is)

modifier_filled : (o : Option Val) → IfSome o IsResult → IfSome (option_and_then (λ v. if_ok (modifier.reading v)) o) IsModification
modifier_filled None is = tt
modifier_filled (Some v) is = modifier_is v is.0

-- ---- steps

any_is : {A : Type 0} (o : Option A) → IfSome o (λ a. Unit {0})
any_is None = tt
any_is (Some a) = tt

answer_is : (s : Setting) (rows : Rows) (run : Run) (op : Op) (next : Applied → Run) → IsOperation op → AreSound rows → IsSound run →
    ((a : Applied) → IsApplied a → IsSound (next a)) →
    (o : Outcome Applied) → applied s.collections rows op s.room ≡ o → IsStepped (by_answer rows run o next)
answer_is s rows run op next good all sound f (Ok a) is =
    let made = applied_is s.collections rows op s.room a good all is in record { rows = made.rows; run = f a made }
answer_is s rows run op next good all sound f (Err e) is = refused_is rows run all sound _

made_is : {A : Type 0} (P : A → Type 0) (rows : Rows) (run : Run) (o : Option A) (act : A → Stepped) → AreSound rows → IsSound run → IfSome o P →
    ((a : A) → P a → IsStepped (act a)) → IsStepped (if_made rows run o act)
made_is P rows run None act all s p f = refused_is rows run all s _
made_is P rows run (Some a) act all s p f = f a p

found_is : (rows : Rows) (run : Run) (e : Fault) (found : Rows) → AreSound rows → IsSound run → IsStepped (if_found rows run e found)
found_is rows run e [] all s = refused_is rows run all s e
found_is rows run e (row ∷ found) all s = unchanged_is rows (gone_on run) all (sound_gone run s)

writes_new : (collection : List ℕ) (run : Run) (o : Option New) → IsSound run → IfSome o IsNew → IfSome (insert_writing collection run o) (IsWriting collection)
writes_new collection run None s good = tt
writes_new collection run (Some new) s good = record { write = good; run = sound_inserted collection new run s }

writes_update : (collection : List ℕ) (run : Run) (b : Bool) (id : List ℕ) (r : modifier.Reading Modification) → IsSound run → IfOk r IsModification →
    IfSome (writing run (if b then update_of id r else None)) (IsWriting collection)
writes_update collection run false id r s good = tt
writes_update collection run true id (Ok (changed_by cs)) s good = record { write = good; run = s }
writes_update collection run true id (Ok (replaced_by fields)) s good = tt
writes_update collection run true id (Err e) s good = tt

writes_removal : (collection : List ℕ) (run : Run) (b : Bool) (id : List ℕ) → IsSound run →
    IfSome (writing run (if b then Some (removes id) else None)) (IsWriting collection)
writes_removal collection run true id s = record { write = tt; run = s }
writes_removal collection run false id s = tt

writes : (collection : List ℕ) (run : Run) (a : Action) (params : List Val) → IsSound run → AreValues (vals_of params) →
    IfSome (writing_in collection run a params) (IsWriting collection)
writes collection run action.Insert (doc ∷ []) s all =
    writes_new collection run (new_of (next_id run collection) doc) s (new_is (next_id run collection) doc all.0)
writes collection run action.Update (text id ∷ v ∷ []) s all = writes_update collection run (is_id id) id (modifier.reading v) s (read_modification v all.1.0)
writes collection run action.Remove (text id ∷ []) s all = writes_removal collection run (is_id id) id s
writes collection run a params s all = tt

ended_is : (run : Run) (a : Applied) → IsSound run → IsApplied a → IsSound (ended (ended_with (Some a.answer)) run)
ended_is run a s made = record { params = s.params; left = tt; outcome = made.answer }

verdict_is : (s : Setting) (rows : Rows) (run : Run) (collection : List ℕ) (w : Writing) (v : Verdict) → IsWriting collection w → AreSound rows →
    IsSound run → IsStepped (by_verdict s rows run collection w v)
verdict_is s rows run collection w verdict.Allowed good all sound =
    answer_is s rows run (operation_of collection w.0) (λ a. ended (ended_with (Some a.answer)) w.1) good.write all sound
    (λ a made. ended_is w.1 a good.run made) (applied s.collections rows (operation_of collection w.0) s.room) refl
verdict_is s rows run collection w verdict.Absent good all sound =
    record { rows = all; run = record { params = sound.params; left = tt; outcome = number_is 0 (omega arith) } }
verdict_is s rows run collection w (verdict.Denied place) good all sound = refused_is rows run all sound _
verdict_is s rows run collection w verdict.NotAllowed good all sound = refused_is rows run all sound _
verdict_is s rows run collection w verdict.BadRule good all sound = refused_is rows run all sound _

step_is : (s : Setting) (rows : Rows) (run : Run) (step : ProgramStep) → IsStep step → AreSound rows → IsSound run → IsStepped (done_step s rows run step)
step_is s rows run (step.Insert collection doc) good all sound =
    made_is IsNew rows run (new_in run collection doc) _ all sound (new_filled (next_id run collection) (filled_in run doc) (filled_is run doc sound good))
    (λ new d. answer_is s rows run (operation.Insert collection new.id new.doc) (λ a. gone_on (inserted collection new run)) d all sound
    (λ a made. sound_gone (inserted collection new run) (sound_inserted collection new run sound))
    (applied s.collections rows (operation.Insert collection new.id new.doc) s.room) refl)
step_is s rows run (step.Update collection selector m every) good all sound =
    made_is (λ q. Unit {0}) rows run (selector_in run selector) _ all sound (any_is (selector_in run selector))
    (λ q u. made_is IsModification rows run (modifier_in run m) _ all sound (modifier_filled (filled_in run m) (filled_is run m sound good))
    (λ n d. answer_is s rows run (operation.Update collection q n every) (λ a. gone_on run) d all sound (λ a made. sound_gone run sound)
    (applied s.collections rows (operation.Update collection q n every) s.room) refl))
step_is s rows run (step.Remove collection selector) good all sound =
    made_is (λ q. Unit {0}) rows run (selector_in run selector) _ all sound (any_is (selector_in run selector))
    (λ q u. answer_is s rows run (operation.Remove collection q) (λ a. gone_on run) tt all sound (λ a made. sound_gone run sound)
    (applied s.collections rows (operation.Remove collection q) s.room) refl)
step_is s rows run (step.Require collection selector e) good all sound =
    made_is (λ q. Unit {0}) rows run (selector_in run selector) _ all sound (any_is (selector_in run selector))
    (λ q u. found_is rows run e (matching collection q rows) all sound)
step_is s rows run step.Unblock good all sound = unchanged_is rows _ all
    (sound_gone (record run { unblocked = true }) (record { params = sound.params; left = sound.left; outcome = sound.outcome }))
step_is s rows run (step.Throw e) good all sound = refused_is rows run all sound e
step_is s rows run (step.Return template) good all sound =
    made_is IsResult rows run (filled_in run template) _ all sound (filled_is run template sound good)
    (λ v d. unchanged_is rows _ all (record { params = sound.params; left = tt; outcome = d }))
step_is s rows run (step.Guarded collection a) good all sound =
    made_is (IsWriting collection) rows run (writing_in collection run a run.params) _ all sound (writes collection run a run.params sound sound.params)
    (λ w d. verdict_is s rows run collection w (judged (or_none (s.rules collection)) w.0 (at key_cmp rows (key_of collection (id_of w.0)))) d all sound)

by_left : (s : Setting) (rows : Rows) (run : Run) (left : List ProgramStep) → AreSteps left → AreSound rows → IsSound run →
    IsStepped (stepped_by s rows run left)
by_left s rows run [] steps all sound = unchanged_is rows run all sound
by_left s rows run (step ∷ left) steps all sound =
    step_is s rows (record run { left = left }) step steps.0 all (record { params = sound.params; left = steps.1; outcome = sound.outcome })

-- what a step leaves of what is sound
pub stepped_is : (s : Setting) (rows : Rows) (run : Run) → AreSound rows → IsSound run → IsStepped (stepped s rows run)
stepped_is s rows run all sound = by_left s rows run run.left sound.left all sound
