-- What a machine's calls make of its history, and that it stays legal.
use Rattle.std.specs.Prelude.{◌≡◌, ℕ, ◌+◌, ◌<◌, ◌≤◌, ◌==◌, List, [], ◌∷◌, ◌++◌, length, Bool, true, false, cond, not, ◌&&◌, ◌||◌, nat_lt, ◌⊎◌, Option, None, Some, is_some, option_map, Result, Ok, Err, IsTrue, if◌then◌else◌, refl}
use Rattle.std.proofs.Common.{ap, sym, subst, ◌∙◌, arith, inl, inr, ⊎_elim, length-append}
use Rattle.std.proofs.lemmas.Bool.{and_parts, and_from, not_from_false, eq-eqb, ltb-true, le-leb}
use Rattle.std.proofs.lemmas.List.Folds.{list_any-append}
use Rattle.std.specs.List.{list_any}
use Rattle.std.specs.Ordering.{eq_by_cmp}
use Rattle.map_model.specs.Maps.{at}
use Rattle.map_model.specs.MapLaws.{eq_by_cmp-self}
use Rattle.value_model.specs.Val.{Val}
use Rattle.ejson_value.specs.View.{view}
use Rattle.ejson_value.specs.declared.value.Value.{Value}
use Rattle.app_model.specs.App.{App, method}
use Rattle.collection_store.specs.declared.operation.Op.{Op}
use Rattle.collection_store.specs.Outcome.{Outcome, code_of}
use Rattle.collection_store.specs.Applied.{Applied, applied}
use Rattle.program_steps.specs.declared.outcome.Status.{Status}
use Rattle.history_model.specs.declared.entry.Entry.{Entry}
use Rattle.history_model.specs.declared.entry.Entry.TheVariants as entry
use Rattle.history_model.specs.Operations.{operation_in}
use Rattle.history_model.specs.History.{Programs, Runs, run_cmp, Begun, Held, room_in, held, status_of, status_in, goes_on, is_next, is_full, is_full_for_operation, is_answered, is_made, can_follow, begins, max_entries, reserved, IsLegal}
use Rattle.history_model.specs.HistoryLaws.{run_order, held_entries, IsLegal-append}
use Rattle.history_model.specs.LimitLaws.{legal_within}
use Rattle.history_model.specs.BegunLaws.{run_where_begun}
use Rattle.store_machine.specs.declared.fault.BeginFault.{BeginFault}
use Rattle.store_machine.specs.declared.fault.BeginFault.TheVariants as begin
use Rattle.store_machine.specs.declared.fault.AdminFault.{AdminFault}
use Rattle.store_machine.specs.declared.fault.AdminFault.TheVariants as admin
use Rattle.store_machine.specs.State.{MachineState, programs, held_by, with_entry, full_with, begin_answer, is_running, step_state, refusal_of, by_answer, by_operation, admin_answer}

-- ---- lengths

-- a legal history is short
pub legal_short : (app : App) (history : List Entry) → IsLegal (programs app) history → length history ≤ 1048576
legal_short app history l =
    let w = legal_within (programs app) history l in
    let e = held_entries (programs app) history in omega (arith, w.entries, e)

-- ---- a call begins

module _ (m m' : MachineState) (s k : ℕ) (name : List ℕ) (params : List Val) (seed : Value) where
  abbrev pub begun_entry : Entry
  begun_entry = entry.Begin s k name params seed

  abbrev has_run : Bool
  has_run = is_some (status_in (held_by m) s k)

  abbrev has_no_room : Bool
  has_no_room = is_full (programs m.app) (held_by m) name params (view seed)

  abbrev BeginCases : Type 0
  BeginCases = (m' ≡ m) ⊎ ((m' ≡ with_entry m begun_entry) × (has_run ≡ false) × (has_no_room ≡ false))

  begin_cases : begin_answer m s k name params seed ≡ Ok m' → BeginCases
  begin_cases e =
      elim has_run as (λ a. has_run ≡ a → cond a (Ok m) (cond has_no_room (Err (full_with m name params (view seed))) (Ok (with_entry m begun_entry))) ≡ Ok m' → BeginCases) [
        | true ↦ λ is q. inl (cc q)
        | false ↦ λ is q.
            elim has_no_room as (λ b. has_no_room ≡ b → cond b (Err (full_with m name params (view seed))) (Ok (with_entry m begun_entry)) ≡ Ok m' → BeginCases) [
              | true ↦ λ full r. cc r
              | false ↦ λ free r. inr (cc r, is, free)
            ] refl q
      ] refl e

  -- the history gets longer by the entry, where it gets longer
  pub begin_grows : begin_answer m s k name params seed ≡ Ok m' → length m.history < length m'.history → (m' ≡ with_entry m begun_entry) × (has_run ≡ false) × (has_no_room ≡ false)
  begin_grows e more =
      ⊎_elim
      (λ (same : m' ≡ m). absurd (let l : length m'.history ≡ length m.history = ap (λ (x : MachineState). length x.history) same in omega (arith, more, l)))
      (λ (grown : (m' ≡ with_entry m begun_entry) × (has_run ≡ false) × (has_no_room ≡ false)). grown)
      (begin_cases e)

  pub begin_stays : begin_answer m s k name params seed ≡ Ok m' → length m'.history ≤ length m.history → m' ≡ m
  begin_stays e less =
      ⊎_elim
      (λ (same : m' ≡ m). same)
      (λ (grown : (m' ≡ with_entry m begun_entry) × (has_run ≡ false) × (has_no_room ≡ false)).
      absurd (let l : length m'.history ≡ length m.history + 1 = ap (λ (x : MachineState). length x.history) grown.0 ∙ length-append m.history (begun_entry ∷ []) in omega (arith, less, l)))
      (begin_cases e)

-- the entry can follow
pub begin_legal : (app : App) (history : List Entry) (s k : ℕ) (name : List ℕ) (params : List Val) (seed : Value) → IsLegal (programs app) history → is_some (method app name) ≡ true
    → (is_some (status_in (held (programs app) history) s k) || is_next s k (held (programs app) history).runs) ≡ true → is_some (status_in (held (programs app) history) s k) ≡ false
    → is_full (programs app) (held (programs app) history) name params (view seed) ≡ false → IsLegal (programs app) (history ++ entry.Begin s k name params seed ∷ [])
begin_legal app history s k name params seed l known may none free =
    let h = held (programs app) history in
    let next : is_next s k h.runs ≡ true = sym (ap (λ b. b || is_next s k h.runs) none) ∙ may in
    IsLegal-append (programs app) history (entry.Begin s k name params seed) l
    (and_from (is_some (method app name) && is_next s k h.runs) (not (is_full (programs app) h name params (view seed)))
    (and_from (is_some (method app name)) (is_next s k h.runs) known next) (not_from_false (is_full (programs app) h name params (view seed)) free))

-- ---- a call can't begin whose number is not above the others

-- where no run of the session has a number from k on, k is above all of them
below_all : (s k : ℕ) (runs : Runs) → ((j : ℕ) → k ≤ j → at run_cmp runs (s, j) ≡ None) → is_next s k runs ≡ true
below_all s k [] none = refl
below_all s k (r ∷ runs) none =
    and_from (not (r.0.0 == s) || nat_lt r.0.1 k) (is_next s k runs) (own (r.0.0 == s) (nat_lt r.0.1 k) refl refl)
    (below_all s k runs (λ j le. rest j (none j le)))
  where
    rest : (j : ℕ) → at run_cmp (r ∷ runs) (s, j) ≡ None → at run_cmp runs (s, j) ≡ None
    rest j e = elim (eq_by_cmp run_cmp (s, j) r.0) as (λ (c : Bool). cond c (Some r.1) (at run_cmp runs (s, j)) ≡ None → at run_cmp runs (s, j) ≡ None) [ true ↦ λ q. cc q | false ↦ λ q. q ] e

    found : (r.0.0 == s) ≡ true → at run_cmp (r ∷ runs) (s, r.0.1) ≡ Some r.1
    found is =
        let same : r.0.0 ≡ s = grind arith in
        let here : eq_by_cmp run_cmp (s, r.0.1) r.0 ≡ true = ap (λ n. eq_by_cmp run_cmp (n, r.0.1) r.0) (sym same) ∙ eq_by_cmp-self run_order r.0 in
        ap (λ c. cond c (Some r.1) (at run_cmp runs (s, r.0.1))) here

    own : (a b : Bool) → (r.0.0 == s) ≡ a → nat_lt r.0.1 k ≡ b → (not a || b) ≡ true
    own false b is less = refl
    own true true is less = refl
    own true false is less = absurd (let some = found is in let le : k ≤ r.0.1 = grind arith in cc (some, none r.0.1 le))

no_run : (o : Option Begun) → option_map status_of o ≡ None → o ≡ None
no_run None e = refl
no_run (Some b) e = cc e

none_of : (o : Option Status) → is_some o ≡ false → o ≡ None
none_of None e = refl
none_of (Some x) e = cc e

pub some_above : (m : MachineState) (s k last : ℕ) → is_some (status_in (held_by m) s k) ≡ false → is_next s k (held_by m).runs ≡ false → is_some (status_in (held_by m) s last) ≡ true
    → ((j : ℕ) → last < j → status_in (held_by m) s j ≡ None) → k < last
some_above m s k last none not_next there greatest = by (nat_lt k last) refl
  where
    all : last ≤ k → (j : ℕ) → k ≤ j → at run_cmp (held_by m).runs (s, j) ≡ None
    all most j le = no_run _ (at_place (j == k) refl)
      where
        at_place : (b : Bool) → (j == k) ≡ b → status_in (held_by m) s j ≡ None
        at_place true is = let same : j ≡ k = grind arith in subst (λ n. status_in (held_by m) s n ≡ None) (sym same) (none_of _ none)
        at_place false is = greatest j (let far : k < j = grind arith in omega (arith, most, far))

    by : (b : Bool) → nat_lt k last ≡ b → k < last
    by true is = ltb-true k last is
    by false is = absurd (let most : last ≤ k = grind arith in cc (below_all s k (held_by m).runs (all most), not_next))

pub none_above : (m : MachineState) (s k : ℕ) → is_next s k (held_by m).runs ≡ false → ((j : ℕ) → status_in (held_by m) s j ≡ None) → ⊥
none_above m s k not_next none = cc (below_all s k (held_by m).runs (λ j le. no_run _ (none j)), not_next)

pub none_is : (m : MachineState) (s k : ℕ) → is_some (status_in (held_by m) s k) ≡ false → status_in (held_by m) s k ≡ None
none_is m s k e = none_of _ e

-- ---- a run makes a step

pub step_grows : (m : MachineState) (s k : ℕ) → is_running m s k ≡ true → step_state m s k ≡ with_entry m (entry.Step s k)
step_grows m s k goes = ap (λ b. cond b (with_entry m (entry.Step s k)) m) goes

pub step_stays : (m : MachineState) (s k : ℕ) → is_running m s k ≡ false → step_state m s k ≡ m
step_stays m s k goes = ap (λ b. cond b (with_entry m (entry.Step s k)) m) goes

pub step_legal : (app : App) (history : List Entry) (s k : ℕ) → IsLegal (programs app) history → goes_on (at run_cmp (held (programs app) history).runs (s, k)) ≡ true → IsLegal (programs app) (history ++ entry.Step s k ∷ [])
step_legal app history s k l goes = IsLegal-append (programs app) history (entry.Step s k) l goes

-- where a status is answered, the run went on
pub step_some : (m n : MachineState) (s k : ℕ) (status : Status) → Some status ≡ (if is_running m s k then status_in (held_by n) s k else None) → is_running m s k ≡ true
step_some m n s k status e = elim (is_running m s k) as (λ b. Some status ≡ cond b (status_in (held_by n) s k) None → b ≡ true) [ true ↦ λ _. refl | false ↦ λ q. cc q ] e

some_run : (o : Option Begun) → goes_on o ≡ true → is_some (option_map status_of o) ≡ true
some_run None e = cc e
some_run (Some b) e = refl

any_step : (key : ℕ × ℕ) (s k : ℕ) (history : List Entry) → list_any (begins key) (history ++ entry.Step s k ∷ []) ≡ list_any (begins key) history
any_step key s k [] = refl
any_step key s k (e ∷ es) = ap (λ b. begins key e || b) (any_step key s k es)

-- where none is, it did not
pub step_none : (app : App) (history : List Entry) (s k : ℕ) → let m : MachineState = record { app = app; history = history } in None ≡ (if is_running m s k then status_in (held_by (step_state m s k)) s k else None) → is_running m s k ≡ false
step_none app history s k e =
    let m : MachineState = record { app = app; history = history } in
    elim (is_running m s k) as (λ b. is_running m s k ≡ b → None ≡ cond b (status_in (held_by (step_state m s k)) s k) None → b ≡ false) [
      | false ↦ λ _ _. refl
      | true ↦ λ goes q.
          let was : is_some (status_in (held_by m) s k) ≡ true = some_run (at run_cmp (held_by m).runs (s, k)) goes in
          let now : is_some (status_in (held_by (with_entry m (entry.Step s k))) s k) ≡ true =
          run_where_begun (programs app) (history ++ entry.Step s k ∷ []) s k ∙ (any_step (s, k) s k history ∙ (sym (run_where_begun (programs app) history s k) ∙ was)) in
          let none : status_in (held_by (with_entry m (entry.Step s k))) s k ≡ None = ap (λ (x : MachineState). status_in (held_by x) s k) (sym (step_grows m s k goes)) ∙ sym q in
          cc (now, none)
    ] refl e

-- ---- an operation is made

module _ (m m' : MachineState) (op : List Val) where
  made_by_answer : (o : Outcome Applied) → by_answer m op o ≡ Ok m' → m' ≡ with_entry m (entry.Admin op)
  made_by_answer (Ok a) e = cc e
  made_by_answer (Err r) e = cc e

  made_is : (o : Option Op) → by_operation m op o ≡ Ok m' → (m' ≡ with_entry m (entry.Admin op)) × (is_made (programs m.app) (held_by m) o ≡ true)
  made_is None e = cc e
  made_is (Some o) e = (made_by_answer (applied m.app.collections (held_by m).rows o (room_in (held_by m))) e, answered (applied m.app.collections (held_by m).rows o (room_in (held_by m))) e)
    where
      answered : (r : Outcome Applied) → by_answer m op r ≡ Ok m' → is_answered r ≡ true
      answered (Ok a) e = refl
      answered (Err r) e = cc e

  pub admin_grows : admin_answer m op ≡ Ok m' → (m' ≡ with_entry m (entry.Admin op)) × (can_follow (programs m.app) (held_by m) (entry.Admin op) ≡ true)
  admin_grows e =
      elim (is_full_for_operation (held_by m)) as (λ b. is_full_for_operation (held_by m) ≡ b → cond b (Err (admin.Refused 503)) (by_operation m op (operation_in op)) ≡ Ok m'
      → (m' ≡ with_entry m (entry.Admin op)) × (can_follow (programs m.app) (held_by m) (entry.Admin op) ≡ true)) [
        | true ↦ λ is q. cc q
        | false ↦ λ is q.
            let r = made_is (operation_in op) q in
            (r.0, and_from (not (is_full_for_operation (held_by m))) (is_made (programs m.app) (held_by m) (operation_in op)) (not_from_false (is_full_for_operation (held_by m)) is) r.1)
      ] refl e
