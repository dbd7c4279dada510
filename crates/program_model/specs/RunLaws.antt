-- How steps leave their run.
use Rattle.std.specs.Prelude.{drop, suc, ◌≡◌, ℕ, ◌+◌, ◌≤◌, List, [], ◌∷◌, ◌++◌, length, Bool, true, false, cond, Option, None, Some, is_some, Ok, Err}
use Rattle.std.specs.Prelude.{refl, if◌then◌else◌}
use Rattle.std.proofs.Common.{ap, sym, ◌∙◌, arith, length-append}
use Rattle.map_model.specs.Maps.{at}
use Rattle.value_model.specs.Val.{Val, text}
use Rattle.ejson_value.specs.declared.fault.Fault.{Fault}
use Rattle.ejson_value.specs.Key.{key_cmp, key_of}
use Rattle.ejson_value.specs.Rows.{Rows}
use Rattle.modifier_apply.specs.Reading as modifier
use Rattle.collection_store.specs.Outcome.{Outcome as Answer}
use Rattle.collection_store.specs.Applied.{Applied, applied, matching}
use Rattle.program_steps.specs.declared.rules.Action.{Action}
use Rattle.program_steps.specs.declared.rules.Action.TheVariants as action
use Rattle.program_steps.specs.declared.rules.Rules.{Rules}
use Rattle.program_steps.specs.declared.step.ProgramStep.{ProgramStep}
use Rattle.program_steps.specs.declared.step.ProgramStep.TheVariants as step
use Rattle.program_steps.specs.Runs.{Outcome, done}
use Rattle.program_model.specs.declared.verdict.Verdict.{Verdict}
use Rattle.program_model.specs.declared.verdict.Verdict.TheVariants as verdict
use Rattle.program_model.specs.Guarded.{Write, removes, judged, or_none, id_of}
use Rattle.program_model.specs.Run.{Run, seed_text, if_over, gone_on, begun, ended, New, inserted, new_of, next_id, is_id, filled_in, selector_in}
use Rattle.program_model.specs.Run.{modifier_in, new_in}
use Rattle.program_model.specs.Steps.{Setting, Stepped, by_answer, if_made, if_found, Writing, insert_writing, writing, writing_in, update_of}
use Rattle.program_model.specs.Steps.{operation_of, by_verdict, by_rules, done_step, stepped_by, stepped}
use Rattle.program_model.specs.Kept.{is_over, IsRun, Follows}

-- ---- runs that go on, and that end

drop_whole : {A : Type 0} (xs : List A) → drop (length xs) xs ≡ []
drop_whole [] = refl
drop_whole (x ∷ xs) = drop_whole xs

none_left : (steps : List ProgramStep) → (n : ℕ) × ([] ≡ drop n steps)
none_left steps = (length steps, sym (drop_whole steps))

pub follows_ended : (run : Run) (outcome : Outcome) → Follows run (ended outcome run)
follows_ended run outcome =
    record { over = refl; rest = none_left run.left; left = omega arith; drawn = omega arith; unblocked = λ u. u; seed = refl; params = refl }

follows_gone : (left : List ProgramStep) (run : Run) → run.left ≡ left → run.outcome ≡ None → Follows run (if_over left run)
follows_gone [] run is going =
    record { over = sym (ap is_over is); rest = (0, refl); left = omega arith; drawn = omega arith; unblocked = λ u. u; seed = refl; params = refl }
follows_gone (step ∷ steps) run is going = record {
  over = ap is_some going ∙ sym (ap is_over is);
  rest = (0, refl);
  left = omega arith;
  drawn = omega arith;
  unblocked = λ u. u;
  seed = refl;
  params = refl;
}

pub follows_gone_on : (run : Run) → run.outcome ≡ None → Follows run (gone_on run)
follows_gone_on run going = follows_gone run.left run refl going

drawn_more : (collection : List ℕ) (new : New) (run : Run) → length (inserted collection new run).drawn ≤ length run.drawn + 1
drawn_more collection new run =
    elim new.is_drawn as
    (λ (b : Bool). length (cond b (run.drawn ++ collection ∷ []) run.drawn) ≤ length run.drawn + 1)
    [ true ↦ omega (arith, length-append run.drawn (collection ∷ [])) | false ↦ omega arith ]

-- the run that inserted a document goes on, or ends with an outcome
gone_inserted : (left : List ProgramStep) (collection : List ℕ) (new : New) (run : Run) → run.left ≡ left → run.outcome ≡ None →
    Follows run (if_over left (inserted collection new run))
gone_inserted [] collection new run is going = record {
  over = sym (ap is_over is);
  rest = (0, refl);
  left = omega arith;
  drawn = drawn_more collection new run;
  unblocked = λ u. u;
  seed = refl;
  params = refl;
}
gone_inserted (step ∷ steps) collection new run is going =
    record {
      over = ap is_some going ∙ sym (ap is_over is);
      rest = (0, refl);
      left = omega arith;
      drawn = drawn_more collection new run;
      unblocked = λ u. u;
      seed = refl;
      params = refl;
    }

ended_inserted : (collection : List ℕ) (new : New) (run : Run) (outcome : Outcome) → Follows run (ended outcome (inserted collection new run))
ended_inserted collection new run outcome = record {
  over = refl;
  rest = none_left run.left;
  left = omega arith;
  drawn = drawn_more collection new run;
  unblocked = λ u. u;
  seed = refl;
  params = refl;
}

gone_unblocked : (left : List ProgramStep) (run : Run) → run.left ≡ left → run.outcome ≡ None → Follows run (if_over left (record run { unblocked = true }))
gone_unblocked [] run is going =
    record { over = sym (ap is_over is); rest = (0, refl); left = omega arith; drawn = omega arith; unblocked = λ u. refl; seed = refl; params = refl }
gone_unblocked
    (step ∷ steps) run is going = record {
      over = ap is_some going ∙ sym (ap is_over is);
      rest = (0, refl);
      left = omega arith;
      drawn = omega arith;
      unblocked = λ u. refl;
      seed = refl;
      params = refl;
    }

-- ---- what a step is made of

by_answer_follows : (rows : Rows) (run : Run) (o : Answer Applied) (next : Applied → Run) → ((a : Applied) → Follows run (next a)) →
    Follows run (by_answer rows run o next).run
by_answer_follows rows run (Ok a) next f = f a
by_answer_follows rows run (Err e) next f = follows_ended run _

if_made_follows : {A : Type 0} (rows : Rows) (run : Run) (o : Option A) (act : A → Stepped) → ((a : A) → Follows run (act a).run) →
    Follows run (if_made rows run o act).run
if_made_follows rows run None act f = follows_ended run _
if_made_follows rows run (Some a) act f = f a

if_found_follows : (rows : Rows) (run : Run) (fault : Fault) (found : Rows) → run.outcome ≡ None → Follows run (if_found rows run fault found).run
if_found_follows rows run fault [] going = follows_ended run _
if_found_follows rows run fault (row ∷ found) going = follows_gone_on run going

-- a guarded step's write, and the run once it is made, which ends
abbrev Wrote : Run → Option Writing → Type 0
Wrote run None = Unit {0}
Wrote run (Some w) = (outcome : Outcome) → Follows run (ended outcome w.1)

wrote_new : (collection : List ℕ) (run : Run) (new : Option New) → Wrote run (insert_writing collection run new)
wrote_new collection run None = tt
wrote_new collection run (Some new) = λ outcome. ended_inserted collection new run outcome

wrote : (run : Run) (write : Option Write) → Wrote run (writing run write)
wrote run None = tt
wrote run (Some write) = λ outcome. follows_ended run outcome

wrote_in : (collection : List ℕ) (run : Run) (a : Action) (params : List Val) → Wrote run (writing_in collection run a params)
wrote_in collection run action.Insert (doc ∷ []) = wrote_new collection run (new_of (next_id run collection) doc)
wrote_in collection run action.Update (text id ∷ v ∷ []) = wrote run (if is_id id then update_of id (modifier.reading v) else None)
wrote_in collection run action.Remove (text id ∷ []) = wrote run (if is_id id then Some (removes id) else None)
wrote_in collection run a params = tt

by_verdict_follows : (s : Setting) (rows : Rows) (run : Run) (collection : List ℕ) (w : Writing) (v : Verdict) →
    ((outcome : Outcome) → Follows run (ended outcome w.1)) → Follows run (by_verdict s rows run collection w v).run
by_verdict_follows s rows run collection w verdict.Allowed f = by_answer_follows rows run
    (applied s.collections rows (operation_of collection w.0) s.room) (λ a. ended (done (Some a.answer)) w.1) (λ a. f (done (Some a.answer)))
by_verdict_follows s rows run collection w verdict.Absent f = follows_ended run _
by_verdict_follows s rows run collection w (verdict.Denied place) f = follows_ended run _
by_verdict_follows s rows run collection w verdict.NotAllowed f = follows_ended run _
by_verdict_follows s rows run collection w verdict.BadRule f = follows_ended run _

by_rules_follows : (s : Setting) (rows : Rows) (run : Run) (collection : List ℕ) (rules : Option Rules) (w : Writing) →
    ((outcome : Outcome) → Follows run (ended outcome w.1)) → Follows run (by_rules s rows run collection rules w).run
by_rules_follows s rows run collection rules w f =
    by_verdict_follows s rows run collection w (judged (or_none rules) w.0 (at key_cmp rows (key_of collection (id_of w.0)))) f

guarded_follows : (s : Setting) (rows : Rows) (run : Run) (collection : List ℕ) (w : Option Writing) → Wrote run w →
    Follows run (if_made rows run w (λ w. by_rules s rows run collection (s.rules collection) w)).run
guarded_follows s rows run collection None f = follows_ended run _
guarded_follows s rows run collection (Some w) f = by_rules_follows s rows run collection (s.rules collection) w f

-- ---- a step

pub done_step_follows : (s : Setting) (rows : Rows) (run : Run) (step : ProgramStep) → run.outcome ≡ None → Follows run (done_step s rows run step).run
done_step_follows s rows run (step.Insert collection doc) going =
    if_made_follows rows run (new_in run collection doc) _ (λ new. by_answer_follows rows run _ _ (λ a. gone_inserted run.left collection new run refl going))
done_step_follows s rows run (step.Update collection selector modifier all) going =
    if_made_follows rows run (selector_in run selector) _
    (λ q. if_made_follows rows run (modifier_in run modifier) _ (λ m. by_answer_follows rows run _ _ (λ a. follows_gone_on run going)))
done_step_follows s rows run (step.Remove collection selector) going =
    if_made_follows rows run (selector_in run selector) _ (λ q. by_answer_follows rows run _ _ (λ a. follows_gone_on run going))
done_step_follows s rows run (step.Require collection selector fault) going =
    if_made_follows rows run (selector_in run selector) _ (λ q. if_found_follows rows run fault (matching collection q rows) going)
done_step_follows s rows run step.Unblock going = gone_unblocked run.left run refl going
done_step_follows s rows run (step.Throw fault) going = follows_ended run _
done_step_follows s rows run (step.Return template) going = if_made_follows rows run (filled_in run template) _ (λ v. follows_ended run _)
done_step_follows s rows run (step.Guarded collection a) going =
    guarded_follows s rows run collection (writing_in collection run a run.params) (wrote_in collection run a run.params)

none_from : (o : Option Outcome) → is_some o ≡ false → o ≡ None
none_from None e = refl
none_from (Some outcome) e = absurd (cc e)

popped_follows : (s : Setting) (rows : Rows) (run : Run) (step : ProgramStep) (steps : List ProgramStep) → run.left ≡ step ∷ steps → IsRun run →
    Follows (record run { left = steps }) (stepped_by s rows run (step ∷ steps)).run
popped_follows s rows run step steps is over = done_step_follows s rows (record run { left = steps }) step (none_from run.outcome (over ∙ ap is_over is))

by_left : (s : Setting) (rows : Rows) (run : Run) (left : List ProgramStep) → run.left ≡ left → IsRun run → Follows run (stepped_by s rows run left).run
by_left s rows run [] is over =
    record { over = over; rest = (0, refl); left = omega arith; drawn = omega arith; unblocked = λ u. u; seed = refl; params = refl }
by_left s rows run (step ∷ steps) is over =
    let f = popped_follows s rows run step steps is over in
    record {
      over = f.over;
      rest = (suc f.rest.0, f.rest.1 ∙ sym (ap (drop (suc f.rest.0)) is));
      left = omega (arith, f.left, ap length is);
      drawn = f.drawn;
      unblocked = f.unblocked;
      seed = f.seed;
      params = f.params;
    }

pub stepped_follows : (s : Setting) (rows : Rows) (run : Run) → IsRun run → Follows run (stepped s rows run).run
stepped_follows s rows run over = by_left s rows run run.left refl over

one_less : (s : Setting) (rows : Rows) (run : Run) (left : List ProgramStep) → run.left ≡ left → IsRun run → is_over left ≡ false →
    length (stepped_by s rows run left).run.left + 1 ≤ length run.left
one_less s rows run [] is over going = absurd (cc going)
one_less s rows run (step ∷ steps) is over going = omega (arith, (popped_follows s rows run step steps is over).left, ap length is)

-- each step of a run that goes on leaves fewer
pub stepped_less : (s : Setting) (rows : Rows) (run : Run) → IsRun run → is_over run.left ≡ false → length (stepped s rows run).run.left + 1 ≤ length run.left
stepped_less s rows run over going = one_less s rows run run.left refl over going

drawn_by : (s : Setting) (rows : Rows) (run : Run) (left : List ProgramStep) → run.left ≡ left → IsRun run →
    length (stepped_by s rows run left).run.drawn + length (stepped_by s rows run left).run.left ≤ length run.drawn + length run.left
drawn_by s rows run [] is over = omega arith
drawn_by s rows run (step ∷ steps) is over = let f = popped_follows s rows run step steps is over in omega (arith, f.left, f.drawn, ap length is)

-- a run draws no more ids than it has steps
pub stepped_drawn : (s : Setting) (rows : Rows) (run : Run) → IsRun run →
    length (stepped s rows run).run.drawn + length (stepped s rows run).run.left ≤ length run.drawn + length run.left
stepped_drawn s rows run over = drawn_by s rows run run.left refl over

begun_by : (left : List ProgramStep) (run : Run) → run.left ≡ left → run.outcome ≡ None → IsRun (if_over left run)
begun_by left run is going = (follows_gone left run is going).over

pub begun_is : (params : List Val) (seed : Val) (steps : List ProgramStep) → IsRun (begun params seed steps)
begun_is params seed steps = begun_by steps
    (record { params = params; seed = seed_text seed; left = steps; made = []; drawn = []; unblocked = false; outcome = None }) refl refl

left_by : (left : List ProgramStep) (run : Run) → (if_over left run).left ≡ run.left
left_by [] run = refl
left_by (step ∷ steps) run = refl

-- a run begins with all of its steps to make
pub begun_left : (params : List Val) (seed : Val) (steps : List ProgramStep) → length (begun params seed steps).left ≡ length steps
begun_left params seed steps = ap length
    (left_by steps (record { params = params; seed = seed_text seed; left = steps; made = []; drawn = []; unblocked = false; outcome = None }))
