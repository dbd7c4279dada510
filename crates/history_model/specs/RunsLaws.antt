-- Laws of the runs of a history: they are runs, and later entries leave what has ended.
use Rattle.std.specs.Prelude.{◌≡◌, ℕ, suc, ◌≤◌, List, [], ◌∷◌, ◌++◌, Bool, true, false, cond, Option, None, Some, IfSome, Ok, Err, refl}
use Rattle.std.specs.Ordering.{eq_by_cmp}
use Rattle.std.proofs.Common.{ap, sym, subst, ◌∙◌, arith}
use Rattle.map_model.specs.Maps.{at, set, IsSorted}
use Rattle.map_model.specs.MapLaws.{sorted-nil, sorted-set, at-set, key_is}
use Rattle.value_model.specs.Val.{Val}
use Rattle.ejson_value.specs.Key.{key_cmp}
use Rattle.ejson_value.specs.View.{view}
use Rattle.collection_store.specs.Outcome.{Outcome}
use Rattle.collection_store.specs.Applied.{Applied, applied}
use Rattle.collection_store.specs.declared.operation.Op.{Op}
use Rattle.program_steps.specs.declared.step.ProgramStep.{ProgramStep}
use Rattle.program_model.specs.Run.{begun}
use Rattle.program_model.specs.Steps.{stepped}
use Rattle.program_model.specs.Kept.{is_over, IsRun}
use Rattle.program_model.specs.RunLaws.{stepped_follows, begun_is}
use Rattle.history_model.specs.declared.entry.Entry.{Entry}
use Rattle.history_model.specs.declared.entry.Entry.TheVariants as entry
use Rattle.history_model.specs.Operations.{operation_in}
use Rattle.history_model.specs.History.{Programs, RunKey, run_cmp, Begun, Runs, Held, nothing, later, room_in, setting_in, steps_of, with_begin}
use Rattle.history_model.specs.History.{with_stepped, no_steps, with_step, with_answer, with_operation, carried, held_from, held}
use Rattle.history_model.specs.Bounds.{IsBegun, AreBegun, IsHeld, StaysAs}
use Rattle.history_model.specs.HistoryLaws.{run_order, carried_entries, sorted_carried, held_from-append}

-- ---- the runs are runs

begun_more : (n m : ℕ) → n ≤ m → (o : Option Begun) → IfSome o (IsBegun n) → IfSome o (IsBegun m)
begun_more n m le None h = tt
begun_more n m le (Some b) h = (h.0, omega (arith, h.1, le))

all_more : (n m : ℕ) (runs : Runs) → n ≤ m → AreBegun n runs → AreBegun m runs
all_more n m runs le all q = begun_more n m le (at run_cmp runs q) (all q)

put_begun : (n m : ℕ) (runs : Runs) (key : RunKey) (b : Begun) → n ≤ m → IsSorted run_cmp runs → AreBegun n runs → IsBegun m b →
    AreBegun m (set run_cmp runs key (Some b))
put_begun n m runs key b le sorted all one q =
    subst (λ (o : Option Begun). IfSome o (IsBegun m)) (sym (at-set run_order runs key (Some b) q sorted)) (by (eq_by_cmp run_cmp q key))
  where
    by : (c : Bool) → IfSome (cond c (Some b) (at run_cmp runs q)) (IsBegun m)
    by true = one
    by false = begun_more n m le (at run_cmp runs q) (all q)

pub record AreRuns (n : ℕ) (runs : Runs) : Type 0 where
  pub sorted : IsSorted run_cmp runs
  pub begun : AreBegun n runs

more_runs : (n m : ℕ) (runs : Runs) → n ≤ m → AreRuns n runs → AreRuns m runs
more_runs n m runs le r = record { sorted = r.sorted; begun = all_more n m runs le r.begun }

put_runs : (n m : ℕ) (runs : Runs) (key : RunKey) (b : Begun) → n ≤ m → AreRuns n runs → IsBegun m b → AreRuns m (set run_cmp runs key (Some b))
put_runs n m runs key b le r one = record { sorted = sorted-set run_order runs key (Some b) r.sorted; begun = put_begun n m runs key b le r.sorted r.begun one }

begin_runs : (app : Programs) (h : Held) (key : RunKey) (method : List ℕ) (params : List Val) (seed : Val) (o : Option Begun) →
    AreRuns h.entries h.runs → AreRuns (suc h.entries) (with_begin app h key method params seed o).runs
begin_runs app h key method params seed None r =
    put_runs h.entries (suc h.entries) h.runs key _ (omega arith) r (begun_is params seed (steps_of (app.method method)), omega arith)
begin_runs app h key method params seed (Some b) r = more_runs h.entries (suc h.entries) h.runs (omega arith) r

stepped_runs : (app : Programs) (h : Held) (key : RunKey) (b : Begun) → IsRun b.run → AreRuns h.entries h.runs →
    AreRuns (suc h.entries) (with_step app h key (Some b)).runs
stepped_runs app h key b is r =
    let s = stepped (setting_in app h) h.rows b.run in
    elim (no_steps b.run.left) as (λ (c : Bool). AreRuns (suc h.entries) (cond c (later h) (with_stepped h key s)).runs) [
      | true ↦ more_runs h.entries (suc h.entries) h.runs (omega arith) r
      | false ↦ put_runs h.entries (suc h.entries) h.runs key (record { run = s.run; at = suc h.entries }) (omega arith) r
          ((stepped_follows (setting_in app h) h.rows b.run is).over, omega arith)
    ]

step_runs : (app : Programs) (h : Held) (key : RunKey) (o : Option Begun) → IfSome o (IsBegun h.entries) → AreRuns h.entries h.runs →
    AreRuns (suc h.entries) (with_step app h key o).runs
step_runs app h key None i r = more_runs h.entries (suc h.entries) h.runs (omega arith) r
step_runs app h key (Some b) i r = stepped_runs app h key b i.0 r

answer_runs : (h : Held) (o : Outcome Applied) → (with_answer h o).runs ≡ h.runs
answer_runs h (Ok a) = refl
answer_runs h (Err e) = refl

pub operation_runs : (app : Programs) (h : Held) (o : Option Op) → (with_operation app h o).runs ≡ h.runs
operation_runs app h None = refl
operation_runs app h (Some op) = answer_runs h (applied app.collections h.rows op (room_in h))

carried_runs : (app : Programs) (h : Held) (e : Entry) → AreRuns h.entries h.runs → AreRuns (suc h.entries) (carried app h e).runs
carried_runs app h (entry.Begin session k method params seed) r = begin_runs app h (session, k) method params (view seed) (at run_cmp h.runs (session, k)) r
carried_runs app h (entry.Step session k) r = step_runs app h (session, k) (at run_cmp h.runs (session, k)) (r.begun (session, k)) r
carried_runs app h (entry.Admin op) r = subst (λ (runs : Runs). AreRuns (suc h.entries) runs) (sym (operation_runs app h (operation_in op)))
    (more_runs h.entries (suc h.entries) h.runs (omega arith) r)

pub carried_is : (app : Programs) (h : Held) (e : Entry) → IsHeld h → IsHeld (carried app h e)
carried_is app h e i =
    let r = carried_runs app h e (record { sorted = i.sorted; begun = i.begun }) in
    record {
      rows = sorted_carried app h e i.rows;
      sorted = r.sorted;
      begun = subst (λ n. AreBegun n (carried app h e).runs) (sym (carried_entries app h e)) r.begun;
    }

pub held_from_is : (app : Programs) (h : Held) (es : List Entry) → IsHeld h → IsHeld (held_from app h es)
held_from_is app h [] i = i
held_from_is app h (e ∷ es) i = held_from_is app (carried app h e) es (carried_is app h e i)

nothing_is : IsHeld nothing
nothing_is = record { rows = sorted-nil key_cmp; sorted = sorted-nil run_cmp; begun = λ q. tt }

pub held_is : (app : Programs) (history : List Entry) → IsHeld (held app history)
held_is app history = held_from_is app nothing history nothing_is

-- ---- what has ended stays

pub stays_itself : (o : Option Begun) → StaysAs o o
stays_itself None = tt
stays_itself (Some b) = (λ u. u, λ e. refl)

pub stays_on : (a b c : Option Begun) → StaysAs a b → StaysAs b c → StaysAs a c
stays_on None b c f g = tt
stays_on (Some a) None c f g = absurd f
stays_on (Some a) (Some b) None f g = absurd g
stays_on (Some a) (Some b) (Some c) f g = (λ u. g.0 (f.0 u), λ e. let same : b ≡ a = f.1 e in g.1 (ap (λ (x : Begun). is_over x.run.left) same ∙ e) ∙ same)

-- another key keeps its run, and this one has the new one
put_stays : (runs : Runs) (key : RunKey) (b : Begun) (q : RunKey) → IsSorted run_cmp runs → StaysAs (at run_cmp runs key) (Some b) →
    StaysAs (at run_cmp runs q) (at run_cmp (set run_cmp runs key (Some b)) q)
put_stays runs key b q sorted one = subst (λ (o : Option Begun). StaysAs (at run_cmp runs q) o) (sym (at-set run_order runs key (Some b) q sorted))
    (by (eq_by_cmp run_cmp q key) refl)
  where
    by : (c : Bool) → eq_by_cmp run_cmp q key ≡ c → StaysAs (at run_cmp runs q) (cond c (Some b) (at run_cmp runs q))
    by true is = subst (λ (k : RunKey). StaysAs (at run_cmp runs k) (Some b)) (sym (key_is run_order q key is)) one
    by false is = stays_itself (at run_cmp runs q)

begin_stays : (app : Programs) (h : Held) (key : RunKey) (method : List ℕ) (params : List Val) (seed : Val) (q : RunKey) (o : Option Begun) →
    at run_cmp h.runs key ≡ o → IsSorted run_cmp h.runs → StaysAs (at run_cmp h.runs q) (at run_cmp (with_begin app h key method params seed o).runs q)
begin_stays app h key method params seed q None is sorted =
    put_stays h.runs key (record { run = begun params seed (steps_of (app.method method)); at = suc h.entries }) q sorted
    (subst (λ (o : Option Begun). StaysAs o (Some (record { run = begun params seed (steps_of (app.method method)); at = suc h.entries }))) (sym is) tt)
begin_stays app h key method params seed q (Some b) is sorted = stays_itself (at run_cmp h.runs q)

not_over : (left : List ProgramStep) → no_steps left ≡ false → is_over left ≡ true → ⊥
not_over [] e f = cc e
not_over (step ∷ steps) e f = cc f

stepped_stays : (app : Programs) (h : Held) (key : RunKey) (q : RunKey) (b : Begun) → IsRun b.run → at run_cmp h.runs key ≡ Some b →
    IsSorted run_cmp h.runs → StaysAs (at run_cmp h.runs q) (at run_cmp (with_step app h key (Some b)).runs q)
stepped_stays app h key q b run is sorted =
    let s = stepped (setting_in app h) h.rows b.run in
    let next : Begun = record { run = s.run; at = suc h.entries } in
    elim (no_steps b.run.left) as
    (λ (c : Bool). no_steps b.run.left ≡ c → StaysAs (at run_cmp h.runs q) (at run_cmp (cond c (later h) (with_stepped h key s)).runs q)) [
      | true ↦ λ e. stays_itself (at run_cmp h.runs q)
      | false ↦ λ e. put_stays h.runs key next q sorted
          (subst (λ (o : Option Begun). StaysAs o (Some next)) (sym is)
          ((stepped_follows (setting_in app h) h.rows b.run run).unblocked, λ f. absurd (not_over b.run.left e f)))
    ] refl

step_stays : (app : Programs) (h : Held) (key : RunKey) (q : RunKey) (o : Option Begun) → IfSome o (IsBegun h.entries) → at run_cmp h.runs key ≡ o →
    IsSorted run_cmp h.runs → StaysAs (at run_cmp h.runs q) (at run_cmp (with_step app h key o).runs q)
step_stays app h key q None i is sorted = stays_itself (at run_cmp h.runs q)
step_stays app h key q (Some b) i is sorted = stepped_stays app h key q b i.0 is sorted

pub carried_stays : (app : Programs) (h : Held) (e : Entry) (q : RunKey) → IsHeld h → StaysAs (at run_cmp h.runs q) (at run_cmp (carried app h e).runs q)
carried_stays app h (entry.Begin session k method params seed) q i =
    begin_stays app h (session, k) method params (view seed) q (at run_cmp h.runs (session, k)) refl i.sorted
carried_stays app h (entry.Step session k) q i = step_stays app h (session, k) q (at run_cmp h.runs (session, k)) (i.begun (session, k)) refl i.sorted
carried_stays app h (entry.Admin op) q i = subst (λ (runs : Runs). StaysAs (at run_cmp h.runs q) (at run_cmp runs q))
    (sym (operation_runs app h (operation_in op))) (stays_itself (at run_cmp h.runs q))

pub from_stays : (app : Programs) (h : Held) (es : List Entry) (q : RunKey) → IsHeld h → StaysAs (at run_cmp h.runs q) (at run_cmp (held_from app h es).runs q)
from_stays app h [] q i = stays_itself (at run_cmp h.runs q)
from_stays app h (e ∷ es) q i =
    stays_on (at run_cmp h.runs q) (at run_cmp (carried app h e).runs q) (at run_cmp (held_from app (carried app h e) es).runs q)
    (carried_stays app h e q i) (from_stays app (carried app h e) es q (carried_is app h e i))

-- later entries leave a run that has ended, and what was let be handled
pub held_stays : (app : Programs) (history more : List Entry) (q : RunKey) →
    StaysAs (at run_cmp (held app history).runs q) (at run_cmp (held app (history ++ more)).runs q)
held_stays app history more q =
    subst (λ (h : Held). StaysAs (at run_cmp (held app history).runs q) (at run_cmp h.runs q)) (sym (held_from-append app nothing history more))
    (from_stays app (held app history) more q (held_is app history))
