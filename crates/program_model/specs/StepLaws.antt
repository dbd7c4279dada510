-- What steps do to documents: their changes lead from the rows to those that are left.
use Rattle.std.specs.Prelude.{◌≡◌, ℕ, List, [], ◌∷◌, ◌++◌, Bool, true, false, ◌||◌, Option, None, Some, Ok, Err, refl}
use Rattle.std.specs.List.{list_any}
use Rattle.std.specs.Ordering.{eq_by_cmp}
use Rattle.std.proofs.Common.{ap, sym, subst, arith}
use Rattle.std.proofs.lemmas.List.{map-append}
use Rattle.map_model.specs.Maps.{at, IsSorted}
use Rattle.map_model.specs.Changes.{Leads}
use Rattle.map_model.specs.ChangeLaws.{Leads-append, Leads-nil, sorted-changed}
use Rattle.value_model.specs.Val.{Val}
use Rattle.ejson_value.specs.declared.key.Key.{Key}
use Rattle.ejson_value.specs.declared.change.Change.{Change}
use Rattle.ejson_value.specs.declared.fault.Fault.{Fault}
use Rattle.ejson_value.specs.Key.{key_cmp, key_order, key_of}
use Rattle.ejson_value.specs.Rows.{Rows}
use Rattle.ejson_value.specs.Changes.{change_of, changes_of}
use Rattle.collection_store.specs.Outcome.{Outcome as Answer}
use Rattle.collection_store.specs.Applied.{Applied, applied, matching}
use Rattle.collection_store.specs.Answered.{AreTouched}
use Rattle.collection_store.specs.declared.operation.Op.{Op}
use Rattle.collection_store.specs.declared.operation.Op.TheVariants as operation
use Rattle.collection_store.proofs.Leading.{applied_does}
use Rattle.program_steps.specs.declared.rules.Rules.{Rules}
use Rattle.program_steps.specs.declared.step.ProgramStep.{ProgramStep}
use Rattle.program_steps.specs.declared.step.ProgramStep.TheVariants as step
use Rattle.program_steps.specs.declared.step.Program.{Program}
use Rattle.program_steps.specs.Runs.{done}
use Rattle.program_model.specs.declared.verdict.Verdict.{Verdict}
use Rattle.program_model.specs.declared.verdict.Verdict.TheVariants as verdict
use Rattle.program_model.specs.Guarded.{judged, or_none, id_of}
use Rattle.program_model.specs.Run.{Run, begun, gone_on, ended, inserted, new_in, selector_in, modifier_in, filled_in}
use Rattle.program_model.specs.Steps.{Setting, Stepped, unchanged, by_answer, if_made, if_found, Writing, writing_in, operation_of, by_verdict}
use Rattle.program_model.specs.Steps.{by_rules, done_step, stepped_by, stepped, further, all_stepped, whole_run, client_setting, stub_of, simulated}
use Rattle.program_model.specs.Kept.{LeadsOn, StepDoes}

-- ---- one step

nothing_done : (rows : Rows) (room : ℕ) (run : Run) → StepDoes rows room (unchanged rows run)
nothing_done rows room run = record { on = record { leads = Leads-nil key_cmp rows; touched = tt }; fits = omega arith }

by_answer_does : (collections : List (List ℕ)) (room : ℕ) (rows : Rows) (run : Run) (op : Op) (next : Applied → Run) → IsSorted key_cmp rows →
    (o : Answer Applied) → applied collections rows op room ≡ o → StepDoes rows room (by_answer rows run o next)
by_answer_does collections room rows run op next sorted (Ok a) is =
    let d = applied_does collections rows op room a sorted is in record { on = record { leads = d.leads; touched = d.touched }; fits = d.fits }
by_answer_does collections room rows run op next sorted (Err e) is = nothing_done rows room _

if_made_does : {A : Type 0} (rows : Rows) (room : ℕ) (run : Run) (o : Option A) (act : A → Stepped) → ((a : A) → StepDoes rows room (act a)) →
    StepDoes rows room (if_made rows run o act)
if_made_does rows room run None act f = nothing_done rows room _
if_made_does rows room run (Some a) act f = f a

if_found_does : (rows : Rows) (room : ℕ) (run : Run) (fault : Fault) (found : Rows) → StepDoes rows room (if_found rows run fault found)
if_found_does rows room run fault [] = nothing_done rows room _
if_found_does rows room run fault (row ∷ found) = nothing_done rows room _

by_verdict_does : (s : Setting) (rows : Rows) (run : Run) (collection : List ℕ) (w : Writing) (v : Verdict) → IsSorted key_cmp rows →
    StepDoes rows s.room (by_verdict s rows run collection w v)
by_verdict_does s rows run collection w verdict.Allowed sorted = by_answer_does s.collections s.room rows run (operation_of collection w.0)
    (λ a. ended (done (Some a.answer)) w.1) sorted (applied s.collections rows (operation_of collection w.0) s.room) refl
by_verdict_does s rows run collection w verdict.Absent sorted = nothing_done rows s.room _
by_verdict_does s rows run collection w (verdict.Denied place) sorted = nothing_done rows s.room _
by_verdict_does s rows run collection w verdict.NotAllowed sorted = nothing_done rows s.room _
by_verdict_does s rows run collection w verdict.BadRule sorted = nothing_done rows s.room _

by_rules_does : (s : Setting) (rows : Rows) (run : Run) (collection : List ℕ) (rules : Option Rules) (w : Writing) → IsSorted key_cmp rows →
    StepDoes rows s.room (by_rules s rows run collection rules w)
by_rules_does s rows run collection rules w sorted =
    by_verdict_does s rows run collection w (judged (or_none rules) w.0 (at key_cmp rows (key_of collection (id_of w.0)))) sorted

done_step_does : (s : Setting) (rows : Rows) (run : Run) (step : ProgramStep) → IsSorted key_cmp rows → StepDoes rows s.room (done_step s rows run step)
done_step_does s rows run (step.Insert collection doc) sorted = if_made_does rows s.room run (new_in run collection doc) _
    (λ new. by_answer_does s.collections s.room rows run (operation.Insert collection new.id new.doc)
    (λ a. gone_on (inserted collection new run)) sorted (applied s.collections rows (operation.Insert collection new.id new.doc) s.room) refl)
done_step_does s rows run (step.Update collection selector modifier all) sorted =
    if_made_does rows s.room run (selector_in run selector) _
    (λ q. if_made_does rows s.room run (modifier_in run modifier) _ (λ m. by_answer_does s.collections s.room rows run
    (operation.Update collection q m all) (λ a. gone_on run) sorted (applied s.collections rows (operation.Update collection q m all) s.room) refl))
done_step_does s rows run (step.Remove collection selector) sorted = if_made_does rows s.room run (selector_in run selector) _
    (λ q. by_answer_does s.collections s.room rows run (operation.Remove collection q)
    (λ a. gone_on run) sorted (applied s.collections rows (operation.Remove collection q) s.room) refl)
done_step_does s rows run (step.Require collection selector fault) sorted =
    if_made_does rows s.room run (selector_in run selector) _ (λ q. if_found_does rows s.room run fault (matching collection q rows))
done_step_does s rows run step.Unblock sorted = nothing_done rows s.room _
done_step_does s rows run (step.Throw fault) sorted = nothing_done rows s.room _
done_step_does s rows run (step.Return template) sorted = if_made_does rows s.room run (filled_in run template) _ (λ v. nothing_done rows s.room _)
done_step_does s rows run (step.Guarded collection a) sorted = if_made_does rows s.room run (writing_in collection run a run.params) _
    (λ w. by_rules_does s rows run collection (s.rules collection) w sorted)

by_left_does : (s : Setting) (rows : Rows) (run : Run) (left : List ProgramStep) → IsSorted key_cmp rows → StepDoes rows s.room (stepped_by s rows run left)
by_left_does s rows run [] sorted = nothing_done rows s.room run
by_left_does s rows run (step ∷ steps) sorted = done_step_does s rows (record run { left = steps }) step sorted

pub stepped_does : (s : Setting) (rows : Rows) (run : Run) → IsSorted key_cmp rows → StepDoes rows s.room (stepped s rows run)
stepped_does s rows run sorted = by_left_does s rows run run.left sorted

pub sorted_led : (rows : Rows) (s : Stepped) → IsSorted key_cmp rows → LeadsOn rows s → IsSorted key_cmp s.rows
sorted_led rows s sorted on = subst (IsSorted key_cmp) on.leads.ends (sorted-changed key_order rows (changes_of s.changes) sorted)

-- ---- a whole run

either : (a b : Bool) → a ≡ true → (a || b) ≡ true
either a b e = ap (λ x. x || b) e

any_more : (test : Key → Bool) (xs ys : List Key) → list_any test xs ≡ true → list_any test (xs ++ ys) ≡ true
any_more test [] ys e = absurd (cc e)
any_more test (x ∷ xs) ys e = elim (test x) as
    (λ b. (b || list_any test xs) ≡ true → (b || list_any test (xs ++ ys)) ≡ true) [ true ↦ λ h. refl | false ↦ λ h. any_more test xs ys h ] e

any_behind : (test : Key → Bool) (xs ys : List Key) → list_any test ys ≡ true → list_any test (xs ++ ys) ≡ true
any_behind test [] ys e = e
any_behind test (x ∷ xs) ys e = elim (test x) as (λ b. (b || list_any test (xs ++ ys)) ≡ true) [ true ↦ refl | false ↦ any_behind test xs ys e ]

touched_first : (ks ls : List Key) (cs : List Change) → AreTouched ks cs → AreTouched (ks ++ ls) cs
touched_first ks ls [] t = tt
touched_first ks ls (c ∷ cs) t = (any_more (λ key. eq_by_cmp key_cmp c.key key) ks ls t.0, touched_first ks ls cs t.1)

touched_then : (ks ls : List Key) (cs : List Change) → AreTouched ls cs → AreTouched (ks ++ ls) cs
touched_then ks ls [] t = tt
touched_then ks ls (c ∷ cs) t = (any_behind (λ key. eq_by_cmp key_cmp c.key key) ks ls t.0, touched_then ks ls cs t.1)

touched_both : (ks : List Key) (cs ds : List Change) → AreTouched ks cs → AreTouched ks ds → AreTouched ks (cs ++ ds)
touched_both ks [] ds t u = u
touched_both ks (c ∷ cs) ds t u = (t.0, touched_both ks cs ds t.1 u)

further_leads : (s : Setting) (rows : Rows) (so_far : Stepped) → IsSorted key_cmp rows → LeadsOn rows so_far → LeadsOn rows (further s so_far)
further_leads s rows so_far sorted on =
    let next = stepped s so_far.rows so_far.run in
    let does = stepped_does s so_far.rows so_far.run (sorted_led rows so_far sorted on) in
    record {
      leads = subst (λ cs. Leads key_cmp cs rows next.rows) (sym (map-append change_of so_far.changes next.changes))
          (Leads-append key_cmp (changes_of so_far.changes) (changes_of next.changes) rows so_far.rows next.rows on.leads does.on.leads);
      touched = touched_both (so_far.touched ++ next.touched) so_far.changes next.changes
          (touched_first so_far.touched next.touched so_far.changes on.touched) (touched_then so_far.touched next.touched next.changes does.on.touched);
    }

all_lead : (s : Setting) (rows : Rows) (steps : List ProgramStep) (so_far : Stepped) → IsSorted key_cmp rows → LeadsOn rows so_far →
    LeadsOn rows (all_stepped s steps so_far)
all_lead s rows [] so_far sorted on = on
all_lead s rows (step ∷ steps) so_far sorted on = all_lead s rows steps (further s so_far) sorted (further_leads s rows so_far sorted on)

pub whole_run_leads : (s : Setting) (rows : Rows) (run : Run) → IsSorted key_cmp rows → LeadsOn rows (whole_run s rows run)
whole_run_leads s rows run sorted = all_lead s rows run.left (unchanged rows run) sorted (nothing_done rows s.room run).on

-- a simulation's changes lead from the view to what it shows, at keys that it touches
pub simulated_leads : (collections : List (List ℕ)) (program : Option Program) (params : List Val) (seed : Val) (view : Rows) → IsSorted key_cmp view →
    LeadsOn view (simulated collections program params seed view)
simulated_leads collections program params seed view sorted = whole_run_leads (client_setting collections) view (begun params seed (stub_of program)) sorted
