-- Calls that begin.
use Rattle.std.specs.Prelude.{is_some, option_map, nat_lt, ◌<◌, ◌^◌, Result, Err}
use Rattle.std.proofs.Common.{◌≡◌, ℕ, suc, ◌+◌, ◌-◌, ◌≤◌, Bool, true, false, ◌||◌, cond, List, [], ◌∷◌, ◌++◌, length, Option, Some, None, Ok, refl, ap, ap₂, sym, subst, ◌∙◌, arith}
use Rattle.std.proofs.lemmas.Bool.{ltb-true, ltb-false, lt-ltb, le-ltb, or_parts}
use Rattle.std.proofs.lemmas.List.{length-map}
use Rattle.map_model.specs.Maps.{at}
use Rattle.value_model.specs.Val.{Val}
use Rattle.ejson_value.specs.View.{view}
use Rattle.ejson_value.specs.Measure.{capped}
use Rattle.ejson_value.specs.declared.value.Value.{Value}
use Rattle.app_model.specs.App.{App, method}
use Rattle.collection_store.specs.State.{StoreState}
use Rattle.program_model.specs.Run.{begun}
use Rattle.program_steps.specs.declared.outcome.Status.{Status}
use Rattle.history_model.specs.declared.entry.Entry.TheVariants as entry
use Rattle.history_model.specs.History.{run_cmp, steps_of, status_of, status_in, call_bytes, entries_with, kept_with, is_next, is_full, max_kept, max_entries}
use Rattle.history_model.specs.HistoryLaws.{held_entries}
use Rattle.history_log.specs.declared.log.Logged.{Logged}
use Rattle.history_log.specs.Log.{entries_in}
use Rattle.store_machine.specs.Places.{put}
use Rattle.store_machine.specs.Keeping.{Kept, first_life, with_begun}
use Rattle.store_machine.specs.declared.called.Called.{Called}
use Rattle.store_machine.specs.declared.fault.BeginFault.{BeginFault}
use Rattle.store_machine.specs.declared.fault.BeginFault.TheVariants as fault
use Rattle.store_machine.specs.declared.parts.Parts.{Parts}
use Rattle.store_machine.specs.State.{MachineState, programs, held_by, with_entry, full_with, begin_answer}
use Rattle.store_machine.specs.Standing.{begun_of, life_of, lives_of, IsPut, seen, kept_of, uncounted, Stand}
use Rattle.store_machine.proofs.Standings.{kept_same, lives_put_at, entries_in-push, run_seen, longer_seen, stand_begun}

status_now : (app : App) (o : Option Called) → option_map status_of (option_map (begun_of app) o) ≡ option_map (λ (c : Called). status_of (begun_of app c)) o
status_now app None = refl
status_now app (Some c) = refl

-- how far a call's run is
pub status_seen : (app : App) (p : Parts) (session k : ℕ) → Stand app p → status_in (held_by (seen app p)) session k ≡ option_map (λ (c : Called). status_of (begun_of app c)) (at run_cmp p.calls.entries (session, k))
status_seen app p session k st = ap (option_map status_of) (run_seen app p session k st) ∙ status_now app (at run_cmp p.calls.entries (session, k))

-- the entries with those to come
pub counted : (app : App) (p : Parts) (more : ℕ) → Stand app p → entries_with (held_by (seen app p)) more ≡ length p.log + p.reserved + more + 1
counted app p more st =
    let entries = held_entries (programs app) (entries_in p.log) in
    let logged = length-map p.log (λ (l : Logged). l.entry) in
    omega (arith, entries, logged, st.keeps.steps)

pub weighed : (app : App) (p : Parts) (params : List Val) (seed : Val) → Stand app p → kept_with (held_by (seen app p)) params seed ≡ p.kept + call_bytes params seed
weighed app p params seed st = ap (λ n. n + call_bytes params seed) (sym st.keeps.bytes)

capped_is : (m n : ℕ) → m < 2 ^ 64 - 1 → capped n ≤ m → capped n ≡ n
capped_is m n small most = omega (arith, small, most)

capped_more : (m n : ℕ) (b : Bool) → m < 2 ^ 64 - 1 → nat_lt m (capped n) ≡ b → nat_lt m n ≡ b
capped_more m n true small is = lt-ltb m n (omega (arith, ltb-true m (capped n) is, small))
capped_more m n false small is = le-ltb m n (omega (arith, ltb-false m (capped n) is, small))

pub capped_test : (m n : ℕ) → m < 2 ^ 64 - 1 → nat_lt m (capped n) ≡ nat_lt m n
capped_test m n small = sym (capped_more m n (nat_lt m (capped n)) small refl)

-- the history is full with the call where one of the two is past its limit
full_is : (e b : ℕ) (full : Bool) → (nat_lt max_entries (capped e) || nat_lt max_kept (capped b)) ≡ full → (nat_lt max_entries e || nat_lt max_kept b) ≡ full
full_is e b full is = ap₂ (λ (x y : Bool). x || y) (capped_more max_entries e (nat_lt max_entries (capped e)) (omega arith) refl) (capped_more max_kept b (nat_lt max_kept (capped b)) (omega arith) refl) ∙ is

pub full_begin : (app : App) (p : Parts) (session k : ℕ) (name : List ℕ) (params : List Val) (seed : Value) (entries kept : ℕ) → Stand app p → at run_cmp p.calls.entries (session, k) ≡ None
    → entries ≡ capped (entries_with (held_by (seen app p)) (length (steps_of (method app name)))) → kept ≡ capped (kept_with (held_by (seen app p)) params (view seed))
    → (nat_lt max_entries entries || nat_lt max_kept kept) ≡ true → begin_answer (seen app p) session k name params seed ≡ Err (fault.Full entries kept)
full_begin app p session k name params seed entries kept st none counts weighs is =
    let m = seen app p in
    let h = held_by m in
    let e = entries_with h (length (steps_of (method app name))) in
    let b = kept_with h params (view seed) in
    let full : is_full (programs app) h name params (view seed) ≡ true = full_is e b true (ap₂ (λ x y. nat_lt max_entries x || nat_lt max_kept y) (sym counts) (sym weighs) ∙ is) in
    let fresh : is_some (status_in h session k) ≡ false = ap is_some (status_seen app p session k st ∙ ap (option_map (λ (c : Called). status_of (begun_of app c))) none) in
    let made : Result MachineState BeginFault = Ok (with_entry m (entry.Begin session k name params seed)) in
    let not_made : Result MachineState BeginFault = Err (full_with m name params (view seed)) in
    let same : Result MachineState BeginFault = Ok m in
    ap (λ b. cond b same (cond (is_full (programs app) h name params (view seed)) not_made made)) fresh
    ∙ (ap (λ b. cond b not_made made) full ∙ ap₂ (λ x y. let r : Result MachineState BeginFault = Err (fault.Full x y) in r) (sym counts) (sym weighs))

-- where the call has a run nothing changes
pub begun_before : (app : App) (p : Parts) (session k : ℕ) (name : List ℕ) (params : List Val) (seed : Value) (status : Status) → status_in (held_by (seen app p)) session k ≡ Some status → begin_answer (seen app p) session k name params seed ≡ Ok (seen app p)
begun_before app p session k name params seed status is =
    let m = seen app p in
    let h = held_by m in
    let made : Result MachineState BeginFault = Ok (with_entry m (entry.Begin session k name params seed)) in
    let not_made : Result MachineState BeginFault = Err (full_with m name params (view seed)) in
    let same : Result MachineState BeginFault = Ok m in
    ap (λ b. cond b same (cond (is_full (programs app) h name params (view seed)) not_made made)) (ap is_some is)

-- what is kept where the entry and the call are put there
pub kept_added : (app : App) (p q : Parts) (session k : ℕ) (name : List ℕ) (params : List Val) (seed : Value) (called : Called) (place : ℕ) → place ≡ suc (length p.log) → called.begun ≡ place → called.unblocked ≡ None → called.at ≡ place
    → (begun_of app called).run ≡ begun params (view seed) (steps_of (method app name)) → q.log ≡ p.log ++ record { entry = entry.Begin session k name params seed; changes = [] } ∷ [] → IsPut p.calls.entries (session, k) called q.calls.entries
    → q.store ≡ p.store → q.kept ≡ p.kept → q.reserved ≡ p.reserved → kept_of app q ≡ uncounted app p session k name params seed
kept_added app p q session k name params seed called place placed begins unblocked last run log is store bytes more =
    let first : life_of app called ≡ first_life (suc (length p.log)) (begun params (view seed) (steps_of (method app name))) =
    λ i. record { begun = (begins ∙ placed) i; unblocked = unblocked i; now = record { run = run i; at = (last ∙ placed) i } } in
    kept_same (kept_of app q) (uncounted app p session k name params seed) (ap (λ (s : StoreState). s.rows) store)
    (lives_put_at app p.calls.entries q.calls.entries (session, k) called is ∙ ap (put (lives_of app p.calls.entries) (session, k)) first) bytes more log

-- the call has begun
pub record HasBegun (app : App) (p p' : Parts) (session k : ℕ) (name : List ℕ) (params : List Val) (seed : Value) : Type 0 where
  pub stands : Stand app p'
  pub answer : begin_answer (seen app p) session k name params seed ≡ Ok (seen app p')

-- the steps to come still have room
pub steps_fit : (app : App) (p q : Parts) (session k : ℕ) (name : List ℕ) (params : List Val) (seed : Value) (entries kept : ℕ) → Stand app p
    → entries ≡ capped (entries_with (held_by (seen app p)) (length (steps_of (method app name)))) → (nat_lt max_entries entries || nat_lt max_kept kept) ≡ false
    → kept_of app q ≡ uncounted app p session k name params seed → q.reserved + length (steps_of (method app name)) ≤ max_entries
steps_fit app p q session k name params seed entries kept st counts is keeps =
    let parts = or_parts (nat_lt max_entries entries) (nat_lt max_kept kept) is in
    let few = ltb-false max_entries entries parts.0 in
    let e = entries_with (held_by (seen app p)) (length (steps_of (method app name))) in
    let exact = capped_is max_entries e (omega arith) (omega (arith, few, counts)) in
    omega (arith, few, counts, exact, counted app p (length (steps_of (method app name))) st, ap (λ (m : Kept). m.steps) keeps)

pub begins : (app : App) (p q p' : Parts) (session k : ℕ) (name : List ℕ) (params : List Val) (seed : Value) (entries kept : ℕ) → Stand app p → is_some (method app name) ≡ true → is_next session k (held_by (seen app p)).runs ≡ true
    → at run_cmp p.calls.entries (session, k) ≡ None → entries ≡ capped (entries_with (held_by (seen app p)) (length (steps_of (method app name)))) → kept ≡ capped (kept_with (held_by (seen app p)) params (view seed))
    → (nat_lt max_entries entries || nat_lt max_kept kept) ≡ false → q.store.names ≡ p.store.names
    → kept_of app q ≡ uncounted app p session k name params seed
    → p' ≡ record q { kept = kept; reserved = q.reserved + length (steps_of (method app name)) } → HasBegun app p p' session k name params seed
begins app p q p' session k name params seed entries kept st known next none counts weighs is names keeps after =
    let m = seen app p in
    let h = held_by m in
    let e = entries_with h (length (steps_of (method app name))) in
    let b = kept_with h params (view seed) in
    let few = or_parts (nat_lt max_entries entries) (nat_lt max_kept kept) is in
    let exact : kept ≡ p.kept + call_bytes params (view seed) = weighs ∙ (capped_is max_kept b (omega arith) (omega (arith, ltb-false max_kept kept few.1, weighs)) ∙ weighed app p params (view seed) st) in
    let free : is_full (programs app) h name params (view seed) ≡ false = full_is e b false (ap₂ (λ x y. nat_lt max_entries x || nat_lt max_kept y) (sym counts) (sym weighs) ∙ is) in
    let r : Parts = record q { kept = kept; reserved = q.reserved + length (steps_of (method app name)) } in
    let whole : kept_of app r ≡ with_begun (programs app) (kept_of app p) session k name params seed =
    kept_same (kept_of app r) (with_begun (programs app) (kept_of app p) session k name params seed) (ap (λ (x : Kept). x.rows) keeps) (ap (λ (x : Kept). x.lives) keeps) exact
    (ap (λ (x : Kept). x.steps + length (steps_of (method app name))) keeps) (ap (λ (x : Kept). x.log) keeps) in
    let stands = stand_begun app p r session k name params seed st none known next free names whole in
    let longer : entries_in r.log ≡ entries_in p.log ++ entry.Begin session k name params seed ∷ [] = ap (λ (x : Kept). entries_in x.log) whole ∙ entries_in-push p.log (record { entry = entry.Begin session k name params seed; changes = [] }) in
    let fresh : is_some (status_in h session k) ≡ false = ap is_some (status_seen app p session k st ∙ ap (option_map (λ (c : Called). status_of (begun_of app c))) none) in
    let made : Result MachineState BeginFault = Ok (with_entry m (entry.Begin session k name params seed)) in
    let not_made : Result MachineState BeginFault = Err (full_with m name params (view seed)) in
    let same : Result MachineState BeginFault = Ok m in
    let answer : begin_answer m session k name params seed ≡ Ok (seen app r) =
    ap (λ b. cond b same (cond (is_full (programs app) h name params (view seed)) not_made made)) fresh ∙ (ap (λ b. cond b not_made made) free
    ∙ ap (λ (x : MachineState). let r : Result MachineState BeginFault = Ok x in r) (sym (longer_seen app p r (entry.Begin session k name params seed) longer))) in
    subst (λ (x : Parts). HasBegun app p x session k name params seed) (sym after) (record { stands = stands; answer = answer })
