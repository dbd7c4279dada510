-- What is kept is what the history leads to, entry by entry.
use Rattle.std.specs.Prelude.{◌≡◌, ℕ, suc, ◌+◌, ◌-◌, ◌≤◌, List, [], ◌∷◌, ◌++◌, length, Bool, true, false, cond, not, ◌&&◌, Option, None, Some}
use Rattle.std.specs.Prelude.{is_some, option_map, Ok, IfSome, refl}
use Rattle.std.proofs.Common.{ap, ap₂, sym, subst, ◌∙◌, arith}
use Rattle.map_model.specs.Maps.{at, set}
use Rattle.value_model.specs.Val.{Val}
use Rattle.ejson_value.specs.Rows.{Rows}
use Rattle.ejson_value.specs.View.{view}
use Rattle.ejson_value.specs.declared.value.Value.{Value}
use Rattle.ejson_value.specs.declared.change.Change.{Change}
use Rattle.collection_store.specs.Limits.{new_bytes}
use Rattle.collection_store.specs.Outcome.{Outcome}
use Rattle.collection_store.specs.Applied.{Applied, applied}
use Rattle.collection_store.specs.declared.operation.Op.{Op}
use Rattle.program_steps.specs.declared.step.ProgramStep.{ProgramStep}
use Rattle.program_model.specs.Run.{Run, begun, gone_on, if_over, seed_text}
use Rattle.program_model.specs.Steps.{Setting, Stepped, stepped}
use Rattle.program_model.specs.Kept.{IsRun, is_over}
use Rattle.program_model.specs.RunLaws.{stepped_follows, begun_left}
use Rattle.program_model.specs.StepLaws.{stepped_does}
use Rattle.program_steps.specs.Runs.{Outcome as RunOutcome}
use Rattle.history_model.specs.declared.entry.Entry.{Entry}
use Rattle.history_model.specs.declared.entry.Entry.TheVariants as entry
use Rattle.history_model.specs.Operations.{operation_in}
use Rattle.history_model.specs.History.{Programs, RunKey, run_cmp, Begun, Runs, Held, status_of, later, setting_in, room_in, steps_of, call_bytes}
use Rattle.history_model.specs.History.{no_steps, goes_on, with_begin, with_call, with_step, with_stepped, with_operation, with_answer, step_changes}
use Rattle.history_model.specs.History.{operation_changes, answer_changes, changes_by, carried, held, status_in, max_kept, max_entries, reserved}
use Rattle.history_model.specs.History.{entries_with, is_full, is_full_for_operation, is_next, is_made, is_answered, can_follow}
use Rattle.history_model.specs.Bounds.{IsBegun, IsWithin}
use Rattle.history_model.specs.HistoryLaws.{held-append, held_entries}
use Rattle.history_model.specs.RunsLaws.{held_is}
use Rattle.history_model.specs.LimitLaws.{left_of, carried_within, legal_within}
use Rattle.history_log.specs.declared.log.Logged.{Logged}
use Rattle.store_machine.specs.LogOf.{logged_from, log_of}
use Rattle.store_machine.specs.LogOfLaws.{log_of-append, length-log_of}
use Rattle.store_machine.specs.Places.{Life, Lives, IsLife, AreLives, status_by, put, noted}
use Rattle.store_machine.specs.PlaceLaws.{lives_stay, lives_put, begun_told, stepped_told, stepped_life, no_lives}
use Rattle.store_machine.specs.ReservedLaws.{reserved-set}
use Rattle.store_machine.specs.Keeping.{Kept, Keeps, no_entries, room_by, setting_with, next_place, first_life, with_begun, next_life, with_step_made}
use Rattle.store_machine.specs.Keeping.{with_operation_made}

-- nothing is kept at first
pub keeps_nothing : (app : Programs) → Keeps app [] no_entries
keeps_nothing app = record { rows = refl; lives = no_lives app; bytes = refl; steps = refl; log = refl; within = legal_within app [] tt }

next_is : (app : Programs) (history : List Entry) (m : Kept) → Keeps app history m → next_place m ≡ suc (length history)
next_is app history m k = ap suc (ap length k.log ∙ length-log_of app history)

-- the run of a life is one of the history's
pub run_of_life : (app : Programs) (history : List Entry) (m : Kept) (key : RunKey) → Keeps app history m →
    at run_cmp (held app history).runs key ≡ option_map (λ (l : Life). l.now) (m.lives key)
run_of_life app history m key k = sym (k.lives.now key)

now_told : (o : Option Life) → option_map status_of (option_map (λ (l : Life). l.now) o) ≡ option_map (λ (l : Life). status_of l.now) o
now_told None = refl
now_told (Some l) = refl

-- how far a run is
pub status_kept : (app : Programs) (history : List Entry) (m : Kept) (session k : ℕ) → Keeps app history m →
    status_in (held app history) session k ≡ option_map (λ (l : Life). status_of l.now) (m.lives (session, k))
status_kept app history m session k keeps = ap (option_map status_of) (run_of_life app history m (session, k) keeps) ∙ now_told (m.lives (session, k))

and_both : (x y : Bool) → x ≡ true → y ≡ true → (x && y) ≡ true
and_both true y p q = q
and_both false y p q = absurd (cc p)

-- ---- a call begins

begin_carried : (app : Programs) (h : Held) (session k : ℕ) (name : List ℕ) (params : List Val) (seed : Value) → at run_cmp h.runs (session, k) ≡ None →
    carried app h (entry.Begin session k name params seed) ≡ with_call app h (session, k) name params (view seed)
begin_carried app h session k name params seed none = ap (with_begin app h (session, k) name params (view seed)) none

unblocked_by : (left : List ProgramStep) (run : Run) → (if_over left run).unblocked ≡ run.unblocked
unblocked_by [] run = refl
unblocked_by (step ∷ steps) run = refl

first_is : (n : ℕ) (params : List Val) (seed : Val) (steps : List ProgramStep) → IsLife (suc n) (first_life (suc n) (begun params seed steps))
first_is n params seed steps = record {
  begun = omega arith;
  unblocked = tt;
  free = unblocked_by steps (record { params = params; seed = seed_text seed; left = steps; made = []; drawn = []; unblocked = false; outcome = None });
  at = omega arith;
}

pub keeps_begun : (app : Programs) (history : List Entry) (m : Kept) (session k : ℕ) (name : List ℕ) (params : List Val) (seed : Value) →
    Keeps app history m → m.lives (session, k) ≡ None → is_some (app.method name) ≡ true
    → is_next session k (held app history).runs ≡ true → is_full app (held app history) name params (view seed) ≡ false →
    Keeps app (history ++ entry.Begin session k name params seed ∷ []) (with_begun app m session k name params seed)
keeps_begun app history m session k name params seed keeps none known next free =
    let h = held app history in
    let n = length history in
    let e = entry.Begin session k name params seed in
    let new = steps_of (app.method name) in
    let run = begun params (view seed) new in
    let absent = run_of_life app history m (session, k) keeps ∙ ap (option_map (λ (l : Life). l.now)) none in
    let grows = held-append app history e ∙ begin_carried app h session k name params seed absent in
    let b : Begun = record { run = run; at = suc n } in
    let runs = ap (λ (x : Held). x.runs) grows
    ∙ ap (λ p. set run_cmp h.runs (session, k) (Some (let b : Begun = record { run = run; at = suc p } in b))) (held_entries app history) in
    let lives = lives_put app history e m.lives (session, k) (first_life (suc n) run) keeps.lives (first_is n params (view seed) new) runs
    (λ place fits. begun_told n (first_life (suc n) run) (m.lives (session, k)) place fits refl none) in
    let can = and_both (is_some (app.method name) && is_next session k h.runs) (not (is_full app h name params (view seed)))
    (and_both (is_some (app.method name)) (is_next session k h.runs) known next) (ap not free) in
    let more = reserved-set h.runs (session, k) b (held_is app history).sorted in
    record {
      rows = keeps.rows ∙ sym (ap (λ (x : Held). x.rows) grows);
      lives = subst (λ p. AreLives app (history ++ e ∷ []) (put m.lives (session, k) (first_life p run))) (sym (next_is app history m keeps)) lives;
      bytes = ap (λ p. p + call_bytes params (view seed)) keeps.bytes ∙ sym (ap (λ (x : Held). x.kept) grows);
      steps = omega (arith, keeps.steps, more, ap left_of absent, begun_left params (view seed) new, ap reserved runs);
      log = ap (λ ls. ls ++ record { entry = e; changes = [] } ∷ []) keeps.log ∙ sym (log_of-append app history e);
      within = subst IsWithin (sym (held-append app history e)) (carried_within app h e can (held_is app history) keeps.within);
    }

-- ---- a run makes a step

step_carried : (app : Programs) (h : Held) (session k : ℕ) (b : Begun) → at run_cmp h.runs (session, k) ≡ Some b → no_steps b.run.left ≡ false →
    carried app h (entry.Step session k) ≡ with_stepped h (session, k) (stepped (setting_in app h) h.rows b.run)
step_carried app h session k b is going =
    ap (with_step app h (session, k)) is ∙ ap (λ c. cond c (later h) (with_stepped h (session, k) (stepped (setting_in app h) h.rows b.run))) going

step_changed : (app : Programs) (h : Held) (session k : ℕ) (b : Begun) → at run_cmp h.runs (session, k) ≡ Some b → no_steps b.run.left ≡ false →
    changes_by app h (entry.Step session k) ≡ (stepped (setting_in app h) h.rows b.run).changes
step_changed app h session k b is going = ap (step_changes app h) is ∙ ap (λ c. cond c [] (stepped (setting_in app h) h.rows b.run).changes) going

-- a run that goes on has come to nothing yet
running : (outcome : Option RunOutcome) (left : List ProgramStep) → is_some outcome ≡ is_over left → no_steps left ≡ false → outcome ≡ None
running None left is going = refl
running (Some o) [] is going = absurd (cc going)
running (Some o) (step ∷ steps) is going = absurd (cc is)

life_is : (n : ℕ) (o : Option Life) (l : Life) → o ≡ Some l → IfSome o (IsLife n) → IsLife n l
life_is n None l is all = absurd (cc is)
life_is n (Some a) l is all = let same : a ≡ l = cc is in subst (IsLife n) same all

run_is : (n : ℕ) (o : Option Begun) (b : Begun) → o ≡ Some b → IfSome o (IsBegun n) → IsRun b.run
run_is n None b is all = absurd (cc is)
run_is n (Some a) b is all = let same : a ≡ b = cc is in subst (λ (x : Begun). IsRun x.run) same all.0

-- what a step does is the same over what is kept
pub same_step : (app : Programs) (history : List Entry) (m : Kept) (run : Run) → Keeps app history m →
    stepped (setting_with app (room_by m)) m.rows run ≡ stepped (setting_in app (held app history)) (held app history).rows run
same_step app history m run keeps = ap₂ (λ bytes rows. stepped (setting_with app (max_kept - bytes)) rows run) keeps.bytes keeps.rows

made_stepped : (app : Programs) (history : List Entry) (m : Kept) (session k : ℕ) (old : Life) → Keeps app history m → m.lives (session, k) ≡ Some old →
    no_steps old.now.run.left ≡ false
    → Keeps app (history ++ entry.Step session k ∷ [])
    (with_step_made m session k old (stepped (setting_in app (held app history)) (held app history).rows old.now.run))
made_stepped app history m session k old keeps was going =
    let h = held app history in
    let n = length history in
    let e = entry.Step session k in
    let s = stepped (setting_in app h) h.rows old.now.run in
    let there = run_of_life app history m (session, k) keeps ∙ ap (option_map (λ (l : Life). l.now)) was in
    let grows = held-append app history e ∙ step_carried app h session k old.now there going in
    let b : Begun = record { run = s.run; at = suc n } in
    let runs = ap (λ (x : Held). x.runs) grows
    ∙ ap (λ p. set run_cmp h.runs (session, k) (Some (let b : Begun = record { run = s.run; at = suc p } in b))) (held_entries app history) in
    let is = run_is h.entries (at run_cmp h.runs (session, k)) old.now there ((held_is app history).begun (session, k)) in
    let lived = life_is n (m.lives (session, k)) old was (keeps.lives.are (session, k)) in
    let one = stepped_life n old b lived refl (stepped_follows (setting_in app h) h.rows old.now.run is).unblocked in
    let goes = running old.now.run.outcome old.now.run.left is going in
    let lives =
    lives_put app history e m.lives (session, k) (next_life (suc n) old s.run) keeps.lives one runs
    (λ place fits. stepped_told n (next_life (suc n) old s.run) old (m.lives (session, k)) s.run.unblocked place fits was refl refl refl goes) in
    let can = ap goes_on there ∙ ap not going in
    let more = reserved-set h.runs (session, k) b (held_is app history).sorted in
    record {
      rows = sym (ap (λ (x : Held). x.rows) grows);
      lives = subst (λ p. AreLives app (history ++ e ∷ []) (put m.lives (session, k) (next_life p old s.run))) (sym (next_is app history m keeps)) lives;
      bytes = ap (λ p. p + new_bytes s.changes) keeps.bytes ∙ sym (ap (λ (x : Held). x.kept) grows);
      steps = omega (arith, keeps.steps, more, ap left_of there, ap reserved runs);
      log = ap (λ ls. ls ++ record { entry = e; changes = s.changes } ∷ []) keeps.log
          ∙ (ap (λ cs. log_of app history ++ record { entry = e; changes = cs } ∷ []) (sym (step_changed app h session k old.now there going))
          ∙ sym (log_of-append app history e));
      within = subst IsWithin (sym (held-append app history e)) (carried_within app h e can (held_is app history) keeps.within);
    }

pub keeps_stepped : (app : Programs) (history : List Entry) (m : Kept) (session k : ℕ) (old : Life) → Keeps app history m →
    m.lives (session, k) ≡ Some old → no_steps old.now.run.left ≡ false
    → Keeps app (history ++ entry.Step session k ∷ []) (with_step_made m session k old (stepped (setting_with app (room_by m)) m.rows old.now.run))
keeps_stepped app history m session k old keeps was going =
    subst (λ (s : Stepped). Keeps app (history ++ entry.Step session k ∷ []) (with_step_made m session k old s))
    (sym (same_step app history m old.now.run keeps)) (made_stepped app history m session k old keeps was going)

-- its documents have room
pub step_fits : (app : Programs) (history : List Entry) (m : Kept) (run : Run) → Keeps app history m →
    m.bytes + new_bytes (stepped (setting_with app (room_by m)) m.rows run).changes ≤ max_kept
step_fits app history m run keeps =
    let fits = (stepped_does (setting_in app (held app history)) (held app history).rows run (held_is app history).rows).fits in
    omega (arith, fits, ap (λ (s : Stepped). new_bytes s.changes) (same_step app history m run keeps), keeps.bytes, keeps.within.kept)

-- its steps are among those that are still to make
pub steps_among : (app : Programs) (history : List Entry) (m : Kept) (session k : ℕ) (old : Life) (b : Begun) → Keeps app history m →
    m.lives (session, k) ≡ Some old → length old.now.run.left ≤ m.steps + length b.run.left
steps_among app history m session k old b keeps was =
    let there = run_of_life app history m (session, k) keeps ∙ ap (option_map (λ (l : Life). l.now)) was in
    omega (arith, reserved-set (held app history).runs (session, k) b (held_is app history).sorted, keeps.steps, ap left_of there)

-- ---- an operation is made

operation_carried : (app : Programs) (h : Held) (op : List Val) (o : Op) (a : Applied) → operation_in op ≡ Some o →
    applied app.collections h.rows o (room_in h) ≡ Ok a → carried app h (entry.Admin op) ≡ with_answer h (Ok a)
operation_carried app h op o a is made = ap (with_operation app h) is ∙ ap (with_answer h) made

operation_changed : (app : Programs) (h : Held) (op : List Val) (o : Op) (a : Applied) → operation_in op ≡ Some o →
    applied app.collections h.rows o (room_in h) ≡ Ok a → changes_by app h (entry.Admin op) ≡ a.changes
operation_changed app h op o a is made = ap (operation_changes app h) is ∙ ap answer_changes made

-- what an operation comes to is the same over what is kept
pub same_answer : (app : Programs) (history : List Entry) (m : Kept) (o : Op) → Keeps app history m →
    applied app.collections m.rows o (room_by m) ≡ applied app.collections (held app history).rows o (room_in (held app history))
same_answer app history m o keeps = ap₂ (λ bytes rows. applied app.collections rows o (max_kept - bytes)) keeps.bytes keeps.rows

pub keeps_operated : (app : Programs) (history : List Entry) (m : Kept) (op : List Val) (o : Op) (a : Applied) → Keeps app history m →
    operation_in op ≡ Some o → applied app.collections m.rows o (room_by m) ≡ Ok a → is_full_for_operation (held app history) ≡ false
    → Keeps app (history ++ entry.Admin op ∷ []) (with_operation_made m op a)
keeps_operated app history m op o a keeps is answer free =
    let h = held app history in
    let e = entry.Admin op in
    let made = sym (same_answer app history m o keeps) ∙ answer in
    let grows = held-append app history e ∙ operation_carried app h op o a is made in
    let can = and_both (not (is_full_for_operation h)) (is_made app h (operation_in op)) (ap not free) (ap (is_made app h) is ∙ ap is_answered made) in
    record {
      rows = sym (ap (λ (x : Held). x.rows) grows);
      lives = lives_stay app history e m.lives keeps.lives (ap (λ (x : Held). x.runs) grows);
      bytes = ap (λ p. p + new_bytes a.changes) keeps.bytes ∙ sym (ap (λ (x : Held). x.kept) grows);
      steps = keeps.steps ∙ sym (ap (λ (x : Held). reserved x.runs) grows);
      log = ap (λ ls. ls ++ record { entry = e; changes = a.changes } ∷ []) keeps.log
          ∙ (ap (λ cs. log_of app history ++ record { entry = e; changes = cs } ∷ []) (sym (operation_changed app h op o a is made))
          ∙ sym (log_of-append app history e));
      within = subst IsWithin (sym (held-append app history e)) (carried_within app h e can (held_is app history) keeps.within);
    }
