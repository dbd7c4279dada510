-- What stands after each entry.
use Rattle.std.specs.Prelude.{is_some, option_map, Result, Err, OnErr}
use Rattle.std.specs.Ordering.{eq_by_cmp}
use Rattle.std.proofs.Common.{◌≡◌, ℕ, suc, ◌+◌, ◌-◌, ◌≤◌, Bool, true, false, ◌||◌, cond, List, [], ◌∷◌, ◌++◌, length, Option, Some, None, Ok, refl, ap, ap₂, sym, subst, ◌∙◌, arith}
use Rattle.std.proofs.lemmas.Bool.{not-true}
use Rattle.std.proofs.lemmas.Cmp.{eq_by_cmp_equiv}
use Rattle.std.proofs.lemmas.List.{map-append, length-map}
use Rattle.map_model.specs.Maps.{at}
use Rattle.map_model.specs.MapLaws.{key_is, eq_by_cmp-self}
use Rattle.value_model.specs.Val.{Val}
use Rattle.ejson_value.specs.View.{view}
use Rattle.ejson_value.specs.declared.value.Value.{Value}
use Rattle.ejson_value.specs.declared.change.Change.{Change}
use Rattle.app_model.specs.App.{App, method}
use Rattle.collection_store.specs.Limits.{new_bytes}
use Rattle.collection_store.specs.Applied.{Applied, applied}
use Rattle.collection_store.specs.State.{StoreState}
use Rattle.collection_store.specs.declared.operation.Op.{Op}
use Rattle.program_model.specs.Run.{Run}
use Rattle.program_model.specs.Steps.{Setting, Stepped, stepped}
use Rattle.history_model.specs.declared.entry.Entry.{Entry}
use Rattle.history_model.specs.declared.entry.Entry.TheVariants as entry
use Rattle.history_model.specs.Operations.{operation_in}
use Rattle.history_model.specs.History.{RunKey, run_cmp, Begun, status_of, status_in, no_steps, goes_on, is_next, is_full, is_full_for_operation, held, max_kept, max_entries}
use Rattle.history_model.specs.HistoryLaws.{run_order, held_entries}
use Rattle.history_model.specs.LimitLaws.{left_of}
use Rattle.history_log.specs.declared.log.Logged.{Logged}
use Rattle.history_log.specs.Log.{entries_in, settled, without_last}
use Rattle.history_log.specs.LogLaws.{without_last-push, settled-push}
use Rattle.store_machine.specs.Places.{Life, put, noted}
use Rattle.store_machine.specs.Keeping.{Kept, Keeps, room_by, setting_with, next_life, with_begun, with_step_made, with_operation_made}
use Rattle.store_machine.specs.KeepingLaws.{run_of_life, keeps_begun, keeps_stepped, keeps_operated, step_fits, steps_among, status_kept}
use Rattle.store_machine.specs.declared.called.Called.{Called}
use Rattle.store_machine.specs.declared.called.Made.{Made}
use Rattle.store_machine.specs.declared.parts.Parts.{Parts}
use Rattle.store_machine.specs.State.{MachineState, programs, held_by, with_entry, is_running, step_state}
use Rattle.store_machine.specs.Standing.{begun_of, life_of, Calls, lives_of, IsPut, HasSteppedAt, AreSame, seen, kept_of, Stand}

-- one entry behind the others
pub entries_in-push : (ls : List Logged) (l : Logged) → entries_in (ls ++ l ∷ []) ≡ entries_in ls ++ l.entry ∷ []
entries_in-push ls l = map-append (λ (l : Logged). l.entry) ls (l ∷ [])

same_life : (app : App) (o : Option Called) (b : Bool) (new : Called) → option_map (life_of app) (cond b (Some new) o) ≡ cond b (Some (life_of app new)) (option_map (life_of app) o)
same_life app o true new = refl
same_life app o false new = refl

pub lives_put_at : (app : App) (calls calls' : Calls) (key : RunKey) (new : Called) → IsPut calls key new calls' → lives_of app calls' ≡ put (lives_of app calls) key (life_of app new)
lives_put_at app calls calls' key new is =
    let each = λ (q : RunKey). ap (option_map (life_of app)) (is q) ∙ same_life app (at run_cmp calls q) (eq_by_cmp run_cmp q key) new in
    λ i q. each q i

-- where each call is the same
pub same_lives : (app : App) (calls calls' : Calls) → AreSame calls calls' → lives_of app calls' ≡ lives_of app calls
same_lives app calls calls' same = let each = λ (q : RunKey). ap (option_map (life_of app)) (same q) in λ i q. each q i

pub kept_same : (a b : Kept) → a.rows ≡ b.rows → a.lives ≡ b.lives → a.bytes ≡ b.bytes → a.steps ≡ b.steps → a.log ≡ b.log → a ≡ b
kept_same a b rows lives bytes steps log = λ i. record { rows = rows i; lives = lives i; bytes = bytes i; steps = steps i; log = log i }

next_is : (place : ℕ) (old new : Life) (s : Stepped) → new.begun ≡ old.begun → new.unblocked ≡ noted old.unblocked new.now.run.unblocked place → new.now.run ≡ s.run → new.now.at ≡ place → new ≡ next_life place old s.run
next_is place old new s begun unblocked run last =
    let free = unblocked ∙ ap (λ (r : Run). noted old.unblocked r.unblocked place) run in
    λ i. record { begun = begun i; unblocked = free i; now = record { run = run i; at = last i } }

going_on : (app : App) (o : Option Called) (old : Called) → o ≡ Some old → goes_on (option_map (begun_of app) o) ≡ true → no_steps (begun_of app old).run.left ≡ false
going_on app o old was goes = not-true (no_steps (begun_of app old).run.left) (sym (ap (λ o. goes_on (option_map (begun_of app) o)) was) ∙ goes)

-- what is kept after a step of a run that goes on
pub kept_stepped : (app : App) (p p' : Parts) (session k : ℕ) (made : Made) (room place had left : ℕ) (step : HasSteppedAt app p.store p.calls.entries (session, k) room place p'.store p'.calls.entries made)
    → p.store.names ≡ app.collections → room ≡ max_kept - p.kept → place ≡ suc (length p.log) → had ≡ length (begun_of app step.old).run.left → left ≡ length (begun_of app step.new).run.left
    → p'.log ≡ settled (p.log ++ record { entry = entry.Step session k; changes = [] } ∷ []) made.changes → p'.kept ≡ p.kept + new_bytes made.changes → p'.reserved ≡ p.reserved + left - had
    → kept_of app p' ≡ with_step_made (kept_of app p) session k (life_of app step.old) (stepped (setting_with (programs app) (room_by (kept_of app p))) p.store.rows (begun_of app step.old).run)
kept_stepped app p p' session k made room place had left step names roomy placed before after log bytes steps =
    let m = kept_of app p in
    let old = step.old in
    let run = (begun_of app old).run in
    let setting = ap₂ (λ ns r. let s : Setting = record { collections = ns; rules = (programs app).rules; room = r } in s) names roomy in
    let same = ap (λ s. stepped s p.store.rows run) setting in
    let s = stepped (setting_with (programs app) (room_by m)) p.store.rows run in
    let does = step.stepped in
    let changes = does.changes ∙ ap (λ (x : Stepped). x.changes) same in
    let ran = does.run ∙ ap (λ (x : Stepped). x.run) same in
    let next = next_is place (life_of app old) (life_of app step.new) s (ap (λ (c : Called). c.begun) does.noted) (ap (λ (c : Called). c.unblocked) does.noted) ran (ap (λ (c : Called). c.at) does.noted) in
    kept_same (kept_of app p') (with_step_made m session k (life_of app old) s) (does.rows ∙ ap (λ (x : Stepped). x.rows) same)
    (lives_put_at app p.calls.entries p'.calls.entries (session, k) step.new step.put ∙ (ap (put m.lives (session, k)) next ∙ ap (λ n. put m.lives (session, k) (next_life n (life_of app old) s.run)) placed))
    (bytes ∙ ap (λ cs. p.kept + new_bytes cs) changes)
    (steps ∙ (ap₂ (λ l h. p.reserved + l - h) after before ∙ ap (λ (r : Run). p.reserved + length r.left - length run.left) ran))
    (log ∙ (settled-push p.log (record { entry = entry.Step session k; changes = [] }) made.changes ∙ ap (λ cs. p.log ++ record { entry = entry.Step session k; changes = cs } ∷ []) changes))

-- the history of a log whose last entry has its changes
pub history_after : (ls ls' : List Logged) (e : Entry) (before changes : List Change) → ls' ≡ settled (ls ++ record { entry = e; changes = before } ∷ []) changes → entries_in ls' ≡ entries_in ls ++ e ∷ []
history_after ls ls' e before changes is =
    ap entries_in (is ∙ settled-push ls (record { entry = e; changes = before }) changes) ∙ entries_in-push ls (record { entry = e; changes = changes })

pub life_was : (app : App) (calls : Calls) (key : RunKey) (c : Called) → at run_cmp calls key ≡ Some c → lives_of app calls key ≡ Some (life_of app c)
life_was app calls key c was = ap (option_map (life_of app)) was

-- a step leaves what stands at the end of the longer history
pub stand_stepped : (app : App) (p p' : Parts) (session k : ℕ) (made : Made) (room place had left : ℕ) (step : HasSteppedAt app p.store p.calls.entries (session, k) room place p'.store p'.calls.entries made) → Stand app p
    → goes_on (option_map (begun_of app) (at run_cmp p.calls.entries (session, k))) ≡ true → room ≡ max_kept - p.kept → place ≡ suc (length p.log) → had ≡ length (begun_of app step.old).run.left → left ≡ length (begun_of app step.new).run.left
    → p'.log ≡ settled (p.log ++ record { entry = entry.Step session k; changes = [] } ∷ []) made.changes → p'.kept ≡ p.kept + new_bytes made.changes → p'.reserved ≡ p.reserved + left - had → Stand app p'
stand_stepped app p p' session k made room place had left step st goes roomy placed before after log bytes steps =
    let h = entries_in p.log in
    let m = kept_of app p in
    let going = going_on app (at run_cmp p.calls.entries (session, k)) step.old step.was goes in
    let kept = kept_stepped app p p' session k made room place had left step st.names roomy placed before after log bytes steps in
    let more = keeps_stepped (programs app) h m session k (life_of app step.old) st.keeps (life_was app p.calls.entries (session, k) step.old step.was) going in
    record {
      names = step.stepped.names ∙ st.names;
      keeps =
          subst (λ (es : List Entry). Keeps (programs app) es (kept_of app p')) (sym (history_after p.log p'.log (entry.Step session k) [] made.changes log))
          (subst (λ (x : Kept). Keeps (programs app) (h ++ entry.Step session k ∷ []) x) (sym kept) more);
    }

-- what stands is within the limits
pub bounds : (app : App) (p : Parts) → Stand app p → (p.kept ≤ max_kept) × (length p.log + p.reserved ≤ max_entries)
bounds app p st =
    let entries = held_entries (programs app) (entries_in p.log) in
    let logged = length-map p.log (λ (l : Logged). l.entry) in
    (omega (arith, st.keeps.bytes, st.keeps.within.kept), omega (arith, st.keeps.steps, st.keeps.within.entries, entries, logged))

-- parts that are the same stand where the others stood
pub stand_same : (app : App) (p p' : Parts) → Stand app p → p'.store ≡ p.store → AreSame p.calls.entries p'.calls.entries → p'.log ≡ p.log → p'.kept ≡ p.kept → p'.reserved ≡ p.reserved → Stand app p'
stand_same app p p' st store calls log bytes steps =
    let kept = kept_same (kept_of app p') (kept_of app p) (ap (λ (s : StoreState). s.rows) store) (same_lives app p.calls.entries p'.calls.entries calls) bytes steps log in
    record {
      names = ap (λ (s : StoreState). s.names) store ∙ st.names;
      keeps = subst (λ (es : List Entry). Keeps (programs app) es (kept_of app p')) (sym (ap entries_in log)) (subst (λ (x : Kept). Keeps (programs app) (entries_in p.log) x) (sym kept) st.keeps);
    }

-- a step keeps to the limits
pub step_bounds : (app : App) (p p' : Parts) (session k : ℕ) (made : Made) (room place had left : ℕ) (step : HasSteppedAt app p.store p.calls.entries (session, k) room place p'.store p'.calls.entries made) → Stand app p
    → goes_on (option_map (begun_of app) (at run_cmp p.calls.entries (session, k))) ≡ true → room ≡ max_kept - p.kept → had ≡ length (begun_of app step.old).run.left → left ≡ length (begun_of app step.new).run.left
    → (p.kept + new_bytes made.changes ≤ max_kept) × (had ≤ p.reserved + left) × (had ≤ max_entries) × (p.reserved + left ≤ max_entries + had)
step_bounds app p p' session k made room place had left step st goes roomy before after =
    let h = entries_in p.log in
    let m = kept_of app p in
    let old = step.old in
    let run = (begun_of app old).run in
    let going = going_on app (at run_cmp p.calls.entries (session, k)) old step.was goes in
    let setting = ap₂ (λ ns r. let s : Setting = record { collections = ns; rules = (programs app).rules; room = r } in s) st.names roomy in
    let same = ap (λ s. stepped s p.store.rows run) setting in
    let was = life_was app p.calls.entries (session, k) old step.was in
    let more = keeps_stepped (programs app) h m session k (life_of app old) st.keeps was going in
    let fits = step_fits (programs app) h m run st.keeps in
    let among = steps_among (programs app) h m session k (life_of app old) (begun_of app step.new) st.keeps was in
    let none : Begun = record { run = record run { left = [] }; at = 0 } in
    let few = steps_among (programs app) h m session k (life_of app old) none st.keeps was in
    let changes = step.stepped.changes ∙ ap (λ (x : Stepped). x.changes) same in
    let ran = step.stepped.run ∙ ap (λ (x : Stepped). x.run) same in
    let limits = bounds app p st in (
      omega (arith, fits, ap (λ cs. p.kept + new_bytes cs) changes),
      omega (arith, among, before, after),
      omega (arith, few, before, limits.1),
      omega (arith, more.steps, more.within.entries, before, after, ap (λ (r : Run). length r.left) ran),
    )

-- how far the call's run is after its step
pub status_stepped : (app : App) (p' : Parts) (store : StoreState) (calls : Calls) (session k : ℕ) (made : Made) (room place : ℕ) (step : HasSteppedAt app store calls (session, k) room place p'.store p'.calls.entries made) → Stand app p'
    → status_in (held (programs app) (entries_in p'.log)) session k ≡ Some made.status
status_stepped app p' store calls session k made room place step st =
    let now : at run_cmp p'.calls.entries (session, k) ≡ Some step.new = step.put (session, k) ∙ ap (λ b. cond b (Some step.new) (at run_cmp calls (session, k))) (eq_by_cmp-self run_order (session, k)) in
    status_kept (programs app) (entries_in p'.log) (kept_of app p') session k st.keeps
    ∙ (ap (λ o. option_map (λ (l : Life). status_of l.now) (option_map (life_of app) o)) now ∙ ap (λ s. Some s) (sym step.stepped.status))

-- what stands where a call has begun
pub stand_begun : (app : App) (p p' : Parts) (session k : ℕ) (name : List ℕ) (params : List Val) (seed : Value) → Stand app p → at run_cmp p.calls.entries (session, k) ≡ None → is_some (method app name) ≡ true
    → is_next session k (held (programs app) (entries_in p.log)).runs ≡ true → is_full (programs app) (held (programs app) (entries_in p.log)) name params (view seed) ≡ false → p'.store.names ≡ p.store.names
    → kept_of app p' ≡ with_begun (programs app) (kept_of app p) session k name params seed → Stand app p'
stand_begun app p p' session k name params seed st none known next free names kept =
    let h = entries_in p.log in
    let e = entry.Begin session k name params seed in
    let more = keeps_begun (programs app) h (kept_of app p) session k name params seed st.keeps (ap (option_map (life_of app)) none) known next free in
    let longer = ap (λ (x : Kept). entries_in x.log) kept ∙ entries_in-push p.log (record { entry = e; changes = [] }) in
    record {
      names = names ∙ st.names;
      keeps = subst (λ (es : List Entry). Keeps (programs app) es (kept_of app p')) (sym longer) (subst (λ (x : Kept). Keeps (programs app) (h ++ e ∷ []) x) (sym kept) more);
    }

-- what stands where an operation is made
pub stand_operated : (app : App) (p p' : Parts) (op : List Val) (o : Op) (a : Applied) (room : ℕ) → Stand app p → operation_in op ≡ Some o → applied p.store.names p.store.rows o room ≡ Ok a → room ≡ max_kept - p.kept
    → is_full_for_operation (held (programs app) (entries_in p.log)) ≡ false → p'.store.names ≡ p.store.names → kept_of app p' ≡ with_operation_made (kept_of app p) op a → Stand app p'
stand_operated app p p' op o a room st is answer roomy free names kept =
    let h = entries_in p.log in
    let e = entry.Admin op in
    let made = sym (ap₂ (λ ns r. applied ns p.store.rows o r) st.names roomy) ∙ answer in
    let more = keeps_operated (programs app) h (kept_of app p) op o a st.keeps is made free in
    let longer = ap (λ (x : Kept). entries_in x.log) kept ∙ entries_in-push p.log (record { entry = e; changes = a.changes }) in
    record {
      names = names ∙ st.names;
      keeps = subst (λ (es : List Entry). Keeps (programs app) es (kept_of app p')) (sym longer) (subst (λ (x : Kept). Keeps (programs app) (h ++ e ∷ []) x) (sym kept) more);
    }

-- ---- what contracts see

now_of : (app : App) (o : Option Called) → option_map (λ (l : Life). l.now) (option_map (life_of app) o) ≡ option_map (begun_of app) o
now_of app None = refl
now_of app (Some c) = refl

-- the run of a call is the history's
pub run_seen : (app : App) (p : Parts) (session k : ℕ) → Stand app p → at run_cmp (held_by (seen app p)).runs (session, k) ≡ option_map (begun_of app) (at run_cmp p.calls.entries (session, k))
run_seen app p session k st = run_of_life (programs app) (entries_in p.log) (kept_of app p) (session, k) st.keeps ∙ now_of app (at run_cmp p.calls.entries (session, k))

pub running_seen : (app : App) (p : Parts) (session k : ℕ) → Stand app p → is_running (seen app p) session k ≡ goes_on (option_map (begun_of app) (at run_cmp p.calls.entries (session, k)))
running_seen app p session k st = ap goes_on (run_seen app p session k st)

pub longer_seen : (app : App) (p p' : Parts) (e : Entry) → entries_in p'.log ≡ entries_in p.log ++ e ∷ [] → seen app p' ≡ with_entry (seen app p) e
longer_seen app p p' e longer = ap (λ (h : List Entry). let m : MachineState = record { app = app; history = h } in m) longer

step_seen : (app : App) (p p' : Parts) (session k : ℕ) → Stand app p → goes_on (option_map (begun_of app) (at run_cmp p.calls.entries (session, k))) ≡ true → entries_in p'.log ≡ entries_in p.log ++ entry.Step session k ∷ []
    → seen app p' ≡ step_state (seen app p) session k
step_seen app p p' session k st goes longer =
    let running = running_seen app p session k st ∙ goes in
    longer_seen app p p' (entry.Step session k) longer ∙ sym (ap (λ b. cond b (with_entry (seen app p) (entry.Step session k)) (seen app p)) running)

pub is_there : (calls calls' : Calls) (key : RunKey) (new : Called) → IsPut calls key new calls' → at run_cmp calls' key ≡ Some new
is_there calls calls' key new put = put key ∙ ap (λ b. cond b (Some new) (at run_cmp calls key)) (eq_by_cmp-self run_order key)

left_is : (app : App) (n : ℕ) (o : Option Called) (c : Called) → n ≡ left_of (option_map (begun_of app) o) → o ≡ Some c → n ≡ length (begun_of app c).run.left
left_is app n o c is was = is ∙ ap (λ o. left_of (option_map (begun_of app) o)) was

-- another call at a key
pub put_there : (calls calls' : Calls) (key : RunKey) (new : Called) → ((q : RunKey) → at run_cmp calls' q ≡ cond (eq_by_cmp run_cmp key q) (Some new) (at run_cmp calls q)) → IsPut calls key new calls'
put_there calls calls' key new is q = is q ∙ ap (λ b. cond b (Some new) (at run_cmp calls q)) ((eq_by_cmp_equiv run_order.total).symm key q)

-- the same one
pub same_there : (calls calls' : Calls) (key : RunKey) (old new : Called) → Some old ≡ at run_cmp calls key → new ≡ old → ((q : RunKey) → at run_cmp calls' q ≡ cond (eq_by_cmp run_cmp key q) (Some new) (at run_cmp calls q)) → AreSame calls calls'
same_there calls calls' key old new was same is q =
    is q
    ∙ elim (eq_by_cmp run_cmp key q) as (λ b. eq_by_cmp run_cmp key q ≡ b → cond b (Some new) (at run_cmp calls q) ≡ at run_cmp calls q) [
      | true ↦ λ t. ap Some same ∙ (was ∙ ap (at run_cmp calls) (key_is run_order key q t))
      | false ↦ λ t. refl
    ] refl

-- an entry that is taken back
pub taken_back : (ls ls' ls'' : List Logged) (l : Logged) → ls' ≡ ls ++ l ∷ [] → ls'' ≡ without_last ls' → ls'' ≡ ls
taken_back ls ls' ls'' l pushed popped = popped ∙ (ap without_last pushed ∙ without_last-push ls l)

pub seen_same : (app : App) (p p' : Parts) → p'.log ≡ p.log → seen app p' ≡ seen app p
seen_same app p p' same = ap (λ (ls : List Logged). let m : MachineState = record { app = app; history = entries_in ls } in m) same

-- a step of the machine was made
pub record IsStepped (app : App) (p p' : Parts) (session k : ℕ) (made : Made) : Type 0 where
  pub stands : Stand app p'
  pub seen_is : seen app p' ≡ step_state (seen app p) session k
  pub status : status_in (held_by (seen app p')) session k ≡ Some made.status

pub steps : (app : App) (p p' : Parts) (session k : ℕ) (made : Made) (place had left : ℕ) (step : HasSteppedAt app p.store p.calls.entries (session, k) (max_kept - p.kept) place p'.store p'.calls.entries made) → Stand app p
    → goes_on (option_map (begun_of app) (at run_cmp p.calls.entries (session, k))) ≡ true → place ≡ suc (length p.log)
    → had ≡ left_of (option_map (begun_of app) (at run_cmp p.calls.entries (session, k))) → left ≡ left_of (option_map (begun_of app) (at run_cmp p'.calls.entries (session, k)))
    → p'.log ≡ settled (p.log ++ record { entry = entry.Step session k; changes = [] } ∷ []) made.changes → p'.kept ≡ p.kept + new_bytes made.changes → p'.reserved ≡ p.reserved + left - had → IsStepped app p p' session k made
steps app p p' session k made place had left step st goes placed before after log bytes still =
    let now = is_there p.calls.entries p'.calls.entries (session, k) step.new step.put in
    let stands =
    stand_stepped app p p' session k made (max_kept - p.kept) place had left step st goes refl placed (left_is app had (at run_cmp p.calls.entries (session, k)) step.old before step.was)
    (left_is app left (at run_cmp p'.calls.entries (session, k)) step.new after now) log bytes still in
    record {
      stands = stands;
      seen_is = step_seen app p p' session k st goes (history_after p.log p'.log (entry.Step session k) [] made.changes log);
      status = status_stepped app p' p.store p.calls.entries session k made (max_kept - p.kept) place step stands;
    }

-- its bytes and what it leaves to come keep to the limits
pub step_limits : (app : App) (p p' : Parts) (session k : ℕ) (made : Made) (place had left : ℕ) (step : HasSteppedAt app p.store p.calls.entries (session, k) (max_kept - p.kept) place p'.store p'.calls.entries made) → Stand app p
    → goes_on (option_map (begun_of app) (at run_cmp p.calls.entries (session, k))) ≡ true
    → had ≡ left_of (option_map (begun_of app) (at run_cmp p.calls.entries (session, k))) → left ≡ left_of (option_map (begun_of app) (at run_cmp p'.calls.entries (session, k)))
    → (p.kept + new_bytes made.changes ≤ max_kept) × (had ≤ p.reserved + left) × (had ≤ max_entries) × (p.reserved + left ≤ max_entries + had)
step_limits app p p' session k made place had left step st goes before after =
    let now = is_there p.calls.entries p'.calls.entries (session, k) step.new step.put in
    step_bounds app p p' session k made (max_kept - p.kept) place had left step st goes refl (left_is app had (at run_cmp p.calls.entries (session, k)) step.old before step.was) (left_is app left (at run_cmp p'.calls.entries (session, k)) step.new after now)

pub on_err : {X E P : Type 0} (r : Result X E) → P → OnErr r P
on_err (Ok x) p = tt
on_err (Err e) p = p

-- nothing changes where the run does not go on
pub stays : (app : App) (p : Parts) (session k : ℕ) → Stand app p → goes_on (option_map (begun_of app) (at run_cmp p.calls.entries (session, k))) ≡ false → seen app p ≡ step_state (seen app p) session k
stays app p session k st over = sym (ap (λ b. cond b (with_entry (seen app p) (entry.Step session k)) (seen app p)) (running_seen app p session k st ∙ over))

-- parts that keep the same stand where the others stood
pub stand_kept : (app : App) (p q : Parts) → Stand app p → q.store.names ≡ p.store.names → kept_of app q ≡ kept_of app p → Stand app q
stand_kept app p q st names kept = record {
  names = names ∙ st.names;
  keeps = subst (λ (es : List Entry). Keeps (programs app) es (kept_of app q)) (sym (ap (λ (x : Kept). entries_in x.log) kept)) (subst (λ (x : Kept). Keeps (programs app) (entries_in p.log) x) (sym kept) st.keeps);
}

pub seen_kept : (app : App) (p q : Parts) → kept_of app q ≡ kept_of app p → seen app q ≡ seen app p
seen_kept app p q kept = seen_same app p q (ap (λ (x : Kept). x.log) kept)

pub none_there : {X Y : Type 0} (f : X → Y) (o : Option X) → option_map f o ≡ None → o ≡ None
none_there f None is = refl
none_there f (Some x) is = absurd (cc is)

pub or_second : (x y : Bool) → x ≡ false → (x || y) ≡ true → y ≡ true
or_second true y p q = absurd (cc p)
or_second false y p q = q
