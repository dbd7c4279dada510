-- The runs of a history are those of the calls that it begins, and in a legal history each is begun once.
use Rattle.std.specs.Prelude.{◌≡◌, ℕ, suc, ◌<◌, ◌==◌, List, [], ◌∷◌, ◌++◌, Bool, true, false, cond, not, ◌&&◌, ◌||◌, nat_lt, Option, None, Some}
use Rattle.std.specs.Prelude.{is_some, option_map, refl, if◌then◌else◌}
use Rattle.std.specs.List.{list_any, list_all}
use Rattle.std.specs.Ordering.{eq_by_cmp}
use Rattle.std.proofs.Common.{ap, sym, subst, ◌∙◌}
use Rattle.std.proofs.lemmas.Bool.{ltb-true, eqb-true, eq-eqb, and_parts}
use Rattle.map_model.specs.Maps.{at, set, IsSorted}
use Rattle.map_model.specs.MapLaws.{at-set, key_is, eq_by_cmp-self}
use Rattle.value_model.specs.Val.{Val}
use Rattle.ejson_value.specs.View.{view}
use Rattle.program_model.specs.Run.{begun}
use Rattle.program_model.specs.Steps.{stepped}
use Rattle.history_model.specs.declared.entry.Entry.{Entry}
use Rattle.history_model.specs.declared.entry.Entry.TheVariants as entry
use Rattle.history_model.specs.Operations.{operation_in}
use Rattle.history_model.specs.History.{Programs, RunKey, run_cmp, Begun, Runs, Held, nothing, later, setting_in, steps_of, with_begin, with_stepped}
use Rattle.history_model.specs.History.{no_steps, with_step, carried, held_from, held, status_of, status_in, is_full, is_next, can_follow}
use Rattle.history_model.specs.History.{IsLegalFrom, IsLegal, begins, call_in, calls_of, AllAbove, Rise}
use Rattle.history_model.specs.Bounds.{IsHeld}
use Rattle.history_model.specs.HistoryLaws.{run_order}
use Rattle.history_model.specs.RunsLaws.{operation_runs, carried_is, held_is}

or_false : (b : Bool) → b ≡ (b || false)
or_false true = refl
or_false false = refl

or_true : (b : Bool) → true ≡ (b || true)
or_true true = refl
or_true false = refl

there : (runs : Runs) (key q : RunKey) (b : Begun) → at run_cmp runs key ≡ Some b → eq_by_cmp run_cmp q key ≡ true → is_some (at run_cmp runs q) ≡ true
there runs key q b is e = ap (λ k. is_some (at run_cmp runs k)) (key_is run_order q key e) ∙ ap is_some is

new_there : (runs : Runs) (key : RunKey) (b : Begun) (q : RunKey) → IsSorted run_cmp runs →
    is_some (at run_cmp (set run_cmp runs key (Some b)) q) ≡ (is_some (at run_cmp runs q) || eq_by_cmp run_cmp q key)
new_there runs key b q sorted =
    ap is_some (at-set run_order runs key (Some b) q sorted)
    ∙ elim (eq_by_cmp run_cmp q key) as
    (λ (c : Bool). is_some (cond c (Some b) (at run_cmp runs q)) ≡ (is_some (at run_cmp runs q) || c))
    [ true ↦ or_true (is_some (at run_cmp runs q)) | false ↦ or_false (is_some (at run_cmp runs q)) ]

still_there : (runs : Runs) (key q : RunKey) (b : Begun) → at run_cmp runs key ≡ Some b →
    is_some (at run_cmp runs q) ≡ (is_some (at run_cmp runs q) || eq_by_cmp run_cmp q key)
still_there runs key q b is =
    elim (eq_by_cmp run_cmp q key) as (λ (c : Bool). eq_by_cmp run_cmp q key ≡ c → is_some (at run_cmp runs q) ≡ (is_some (at run_cmp runs q) || c)) [
      | true ↦ λ e. there runs key q b is e ∙ or_true (is_some (at run_cmp runs q))
      | false ↦ λ e. or_false (is_some (at run_cmp runs q))
    ] refl

again_there : (runs : Runs) (key q : RunKey) (b next : Begun) → IsSorted run_cmp runs → at run_cmp runs key ≡ Some b →
    is_some (at run_cmp (set run_cmp runs key (Some next)) q) ≡ (is_some (at run_cmp runs q) || false)
again_there runs key q b next sorted is = new_there runs key next q sorted ∙ (sym (still_there runs key q b is) ∙ or_false (is_some (at run_cmp runs q)))

begin_there : (app : Programs) (h : Held) (key : RunKey) (method : List ℕ) (params : List Val) (seed : Val) (q : RunKey) (o : Option Begun) →
    at run_cmp h.runs key ≡ o → IsSorted run_cmp h.runs →
    is_some (at run_cmp (with_begin app h key method params seed o).runs q) ≡ (is_some (at run_cmp h.runs q) || eq_by_cmp run_cmp q key)
begin_there app h key method params seed q None is sorted =
    new_there h.runs key (record { run = begun params seed (steps_of (app.method method)); at = suc h.entries }) q sorted
begin_there app h key method params seed q (Some b) is sorted = still_there h.runs key q b is

step_there : (app : Programs) (h : Held) (key q : RunKey) (o : Option Begun) → at run_cmp h.runs key ≡ o → IsSorted run_cmp h.runs →
    is_some (at run_cmp (with_step app h key o).runs q) ≡ (is_some (at run_cmp h.runs q) || false)
step_there app h key q None is sorted = or_false (is_some (at run_cmp h.runs q))
step_there app h key q (Some b) is sorted =
    let s = stepped (setting_in app h) h.rows b.run in
    elim (no_steps b.run.left) as
    (λ (c : Bool). is_some (at run_cmp (cond c (later h) (with_stepped h key s)).runs q) ≡ (is_some (at run_cmp h.runs q) || false)) [
      | true ↦ or_false (is_some (at run_cmp h.runs q))
      | false ↦ again_there h.runs key q b (record { run = s.run; at = suc h.entries }) sorted is
    ]

carried_there : (app : Programs) (h : Held) (e : Entry) (q : RunKey) → IsSorted run_cmp h.runs →
    is_some (at run_cmp (carried app h e).runs q) ≡ (is_some (at run_cmp h.runs q) || begins q e)
carried_there app h (entry.Begin session k method params seed) q sorted =
    begin_there app h (session, k) method params (view seed) q (at run_cmp h.runs (session, k)) refl sorted
carried_there app h (entry.Step session k) q sorted = step_there app h (session, k) q (at run_cmp h.runs (session, k)) refl sorted
carried_there app h (entry.Admin op) q sorted = ap (λ (runs : Runs). is_some (at run_cmp runs q)) (operation_runs app h (operation_in op))
    ∙ or_false (is_some (at run_cmp h.runs q))

or_assoc : (a b c : Bool) → ((a || b) || c) ≡ (a || (b || c))
or_assoc true b c = refl
or_assoc false b c = refl

from_there : (app : Programs) (h : Held) (es : List Entry) (q : RunKey) → IsHeld h →
    is_some (at run_cmp (held_from app h es).runs q) ≡ (is_some (at run_cmp h.runs q) || list_any (begins q) es)
from_there app h [] q i = or_false (is_some (at run_cmp h.runs q))
from_there app h (e ∷ es) q i =
    from_there app (carried app h e) es q (carried_is app h e i)
    ∙ (ap (λ b. b || list_any (begins q) es) (carried_there app h e q i.sorted)
    ∙ or_assoc (is_some (at run_cmp h.runs q)) (begins q e) (list_any (begins q) es))

some_status : (o : Option Begun) → is_some (option_map status_of o) ≡ is_some o
some_status None = refl
some_status (Some b) = refl

-- a call has a run exactly where the history begins it
pub run_where_begun : (app : Programs) (history : List Entry) (session k : ℕ) →
    is_some (status_in (held app history) session k) ≡ list_any (begins (session, k)) history
run_where_begun app history session k = some_status (at run_cmp (held app history).runs (session, k))
    ∙ from_there app nothing history (session, k) (held_is app [])

-- ---- the calls of a session, in a legal history

-- the next call's number is above those of the runs that are there
next_above : (session k j : ℕ) (runs : Runs) → is_next session k runs ≡ true → is_some (at run_cmp runs (session, j)) ≡ true → j < k
next_above session k j [] next there = absurd (cc there)
next_above session k j (r ∷ runs) next there =
    let parts = and_parts (not (r.0.0 == session) || nat_lt r.0.1 k) (list_all (λ (r : RunKey × Begun). not (r.0.0 == session) || nat_lt r.0.1 k) runs) next in
    elim (eq_by_cmp run_cmp (session, j) r.0) as
    (λ (c : Bool). eq_by_cmp run_cmp (session, j) r.0 ≡ c → is_some (cond c (Some r.1) (at run_cmp runs (session, j))) ≡ true → j < k) [
      | true ↦ λ e t. own (r.0) (key_is run_order (session, j) r.0 e) parts.0
      | false ↦ λ e t. next_above session k j runs parts.1 t
    ] refl there
  where
    own : (key : RunKey) → (session, j) ≡ key → (not (key.0 == session) || nat_lt key.1 k) ≡ true → j < k
    own key same above =
        let first : (key.0 == session) ≡ true = eq-eqb key.0 session (sym (ap (λ (x : RunKey). x.0) same)) in
        let second : key.1 ≡ j = sym (ap (λ (x : RunKey). x.1) same) in
        subst (λ n. n < k) second (ltb-true key.1 k (ap (λ b. not b || nat_lt key.1 k) (sym first) ∙ above))

all_above : (app : Programs) (h : Held) (es : List Entry) (session j : ℕ) → IsLegalFrom app h es → IsHeld h →
    is_some (at run_cmp h.runs (session, j)) ≡ true → AllAbove j (calls_of session es)
all_above app h [] session j l i there = tt
all_above app h (e ∷ es) session j l i there =
    above_with (all_above app (carried app h e) es session j l.1 (carried_is app h e i)
    (carried_there app h e (session, j) i.sorted ∙ ap (λ b. b || begins (session, j) e) there)) e l.0
  where
    above_with : AllAbove j (calls_of session es) → (e : Entry) → can_follow app h e ≡ true → AllAbove j (call_in session e ++ calls_of session es)
    above_with rest (entry.Step n k) can = rest
    above_with rest (entry.Admin op) can = rest
    above_with rest (entry.Begin n k method params seed) can =
        let next = (and_parts (is_some (app.method method)) (is_next n k h.runs)
        (and_parts (is_some (app.method method) && is_next n k h.runs) (not (is_full app h method params (view seed))) can).0).1 in
        elim (session == n) as (λ (c : Bool). (session == n) ≡ c → AllAbove j ((if c then k ∷ [] else []) ++ calls_of session es)) [
          | true ↦ λ e. (next_above session k j h.runs (subst (λ m. is_next m k h.runs ≡ true) (sym (eqb-true session n e)) next) there, rest)
          | false ↦ λ e. rest
        ] refl

rise_from : (app : Programs) (h : Held) (es : List Entry) (session : ℕ) → IsLegalFrom app h es → IsHeld h → Rise (calls_of session es)
rise_from app h [] session l i = tt
rise_from app h (e ∷ es) session l i = rise_with e (rise_from app (carried app h e) es session l.1 (carried_is app h e i))
    (λ j there. all_above app (carried app h e) es session j l.1 (carried_is app h e i) there) (λ j. carried_there app h e (session, j) i.sorted)
  where
    rise_with : (e : Entry) → Rise (calls_of session es) →
        ((j : ℕ) → is_some (at run_cmp (carried app h e).runs (session, j)) ≡ true → AllAbove j (calls_of session es))
        → ((j : ℕ) → is_some (at run_cmp (carried app h e).runs (session, j)) ≡ (is_some (at run_cmp h.runs (session, j)) || begins (session, j) e)) →
        Rise (call_in session e ++ calls_of session es)
    rise_with (entry.Step n k) rest above there = rest
    rise_with (entry.Admin op) rest above there = rest
    rise_with (entry.Begin n k method params seed) rest above there =
        elim (session == n) as (λ (c : Bool). (session == n) ≡ c → Rise ((if c then k ∷ [] else []) ++ calls_of session es)) [
          | true ↦ λ e.
              let same : session ≡ n = eqb-true session n e in
              let begun : begins (session, k) (entry.Begin n k method params seed) ≡ true =
              ap (λ m. eq_by_cmp run_cmp (session, k) (m, k)) (sym same) ∙ eq_by_cmp-self run_order (session, k) in (
                above k (there k
                    ∙ (ap (λ b. is_some (at run_cmp h.runs (session, k)) || b) begun ∙ sym (or_true (is_some (at run_cmp h.runs (session, k)))))),
                rest,
              )
          | false ↦ λ e. rest
        ] refl

-- in a legal history the numbers of a session's calls rise, so that none is begun twice
pub calls_rise : (app : Programs) (history : List Entry) (session : ℕ) → IsLegal app history → Rise (calls_of session history)
calls_rise app history session l = rise_from app nothing history session l (held_is app [])
