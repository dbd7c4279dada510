-- Laws: A call that the store begins, and a step of a run.
use Rattle.std.specs.Prelude.{◌≡◌, ℕ, List, [], ◌∷◌, ◌++◌, length, Bool, true, false, cond, not, ◌&&◌, Option, None, Some, is_some, option_map}
use Rattle.std.specs.Prelude.{Result, Ok, Err, OnOk, IfOk, if◌then◌else◌, refl}
use Rattle.std.specs.List.{list_any}
use Rattle.std.proofs.Common.{ap, ap₂, sym, ◌∙◌}
use Rattle.std.proofs.Math.Seq.{take-length}
use Rattle.std.proofs.lemmas.Bool.{true≢false, or_right, or_left, or_from}
use Rattle.std.proofs.lemmas.List.Folds.{list_any-append}
use Rattle.map_model.specs.Maps.{at}
use Rattle.value_model.specs.Val.{Val}
use Rattle.value_model.specs.ValLaws.{list_of-vals_of, entries_of-fields_of}
use Rattle.ejson_value.specs.declared.value.Value.{Value}
use Rattle.ejson_value.specs.declared.value.Value.TheVariants as shape
use Rattle.ejson_value.specs.View.{view}
use Rattle.program_steps.specs.declared.outcome.Status.{Status}
use Rattle.app_model.specs.App.{App, method}
use Rattle.world_invariant_laws.specs.history_model.declared.entry.Entry.{Entry}
use Rattle.world_invariant_laws.specs.history_model.declared.entry.Entry.TheVariants as entry
use Rattle.world_invariant_laws.specs.history_model.History.{run_cmp, Begun, status_of, goes_on, held, status_in, status_at, begins, is_full, is_next}
use Rattle.world_invariant_laws.specs.history_model.BegunLaws.{run_where_begun}
use Rattle.store_machine.specs.declared.fault.BeginFault.{BeginFault}
use Rattle.store_machine.specs.declared.fault.BeginFault.TheVariants as fault
use Rattle.store_machine.specs.State.{MachineState, held_by, full_with, with_entry, begin_answer, is_running, step_state, BeginGives}
use Rattle.world_invariant_laws.specs.session_model.Methods.{Blocking}
use Rattle.world_invariant_laws.specs.session_model.State.{State}
use Rattle.world_invariant_laws.specs.world_model.declared.events.Act.TheVariants as act
use Rattle.world_invariant_laws.specs.world_model.declared.events.Answer.TheVariants as answer
use Rattle.world_invariant_laws.specs.world_model.Store.{programs, held_in, value_of}
use Rattle.world_invariant_laws.specs.world_model.Acts.{is_kept, without_run, unbegun, is_refused, begin_entry, begun, refusal_kept, outcome, entries}
use Rattle.world_invariant_laws.specs.Session.{IsServed}
use Rattle.world_invariant_laws.specs.LegalLaws.{begin_next}
use Rattle.connection_laws.specs.Connection.{AConnection, as_conn, IsConnection}
use Rattle.connection_laws.specs.Acting.{with_refusal, IsDone}
use Rattle.connection_laws.specs.StandingLaws.{state_is, idle_of, done_of}
use Rattle.connection_laws.specs.Beginning.{MakesBeginning, MakesStepping, machine}

-- ---- values

-- a value is the one that is made again of what contracts see of it
pub value_of-view : (v : Value) → value_of (view v) ≡ v
value_of-view shape.Null = refl
value_of-view (shape.Bool b) = refl
value_of-view (shape.Int z) = refl
value_of-view (shape.Text s) = refl
value_of-view (shape.Date z) = refl
value_of-view (shape.Bytes s) = refl
value_of-view (shape.List vs) = ap shape.List (list_of-vals_of vs)
value_of-view (shape.Object es) = ap shape.Object (entries_of-fields_of es)
value_of-view (shape.User name v) = refl

right_false : (b : Bool) → (b && false) ≡ false
right_false true = refl
right_false false = refl

-- ---- answers

err_ok : (x : BeginFault) (m : MachineState) → (let e : Result MachineState BeginFault = Err x in e) ≡ Ok m → ⊥
err_ok x m e = cc e

same_ok : (m next : MachineState) → (let o : Result MachineState BeginFault = Ok m in o) ≡ Ok next → m ≡ next
same_ok m next e = cc e

-- ---- runs

-- how far a run is at the end of the history
pub status_now : (app : App) (history : List Entry) (session k : ℕ) →
    status_at (programs app) history (length history) session k ≡ status_in (held_in app history) session k
status_now app history session k = ap (λ (es : List Entry). status_in (held (programs app) es) session k) (take-length history)

-- a run that goes on is there after a step
still_there : (app : App) (history : List Entry) (session k : ℕ) → goes_on (at run_cmp (held_in app history).runs (session, k)) ≡ true →
    is_some (status_in (held_in app (history ++ entry.Step session k ∷ [])) session k) ≡ true
still_there app history session k on =
    run_where_begun (programs app) (history ++ entry.Step session k ∷ []) session k
    ∙ (list_any-append (begins (session, k)) history (entry.Step session k ∷ [])
    ∙ or_left (list_any (begins (session, k)) history) (list_any (begins (session, k)) (entry.Step session k ∷ []))
    (sym (run_where_begun (programs app) history session k) ∙ some_status (at run_cmp (held_in app history).runs (session, k)) on))
  where
    some_status : (o : Option Begun) → goes_on o ≡ true → is_some (option_map status_of o) ≡ true
    some_status None e = cc e
    some_status (Some b) e = refl

-- ---- a step

-- what a step tells of
abbrev told_by : App → List Entry → ℕ → ℕ → MachineState → Bool → Option Status
told_by app history n k next on = cond on (status_in (held_by next) n k) None

abbrev stepped_to : App → List Entry → ℕ → ℕ → Bool → MachineState
stepped_to app history n k on = cond on (with_entry (machine app history) (entry.Step n k)) (machine app history)

module _ (app : App) (name : List ℕ) (history : List Entry) (old : AConnection) (p : IsConnection app name history old) (k : ℕ) (next : MachineState) where
  abbrev n : ℕ
  n = old.session.carried.number

  abbrev on : Bool
  on = is_running (machine app history) n k

  told_some : (status : Status) (b : Bool) → on ≡ b → next ≡ stepped_to app history n k b → Some status ≡ told_by app history n k next b →
      IsDone app name history (act.Step k) old old × (next ≡ machine app (history ++ entries app history (as_conn old) (act.Step k)))
  told_some status true is to told = (record { can = done_of app history (as_conn old) (act.Step k) is refl refl; does = refl; stays = p }, to)
  told_some status false is to told = cc told

  told_none : (b : Bool) → on ≡ b → next ≡ stepped_to app history n k b → None ≡ told_by app history n k next b →
      (outcome app history (as_conn old) (act.Step k) ≡ answer.Idle) × (next ≡ machine app history)
  told_none true is to told =
      let there : is_some (status_in (held_by next) n k) ≡ true = ap (λ (m : MachineState). is_some (status_in (held_by m) n k)) to
      ∙ still_there app history n k is in
      absurd (true≢false (sym there ∙ sym (ap is_some told)))
  told_none false is to told = (idle_of app history (as_conn old) (act.Step k) is, to)

  pub step_makes : {E : Type 0} (result : Result (Option Status) E) → OnOk result (next ≡ step_state (machine app history) n k) →
      IfOk result (λ status. status ≡ (if is_running (machine app history) n k then status_in (held_by next) n k else None)) →
      MakesStepping app name history k old next result
  step_makes (Ok (Some status)) to told = told_some status on refl to told
  step_makes (Ok None) to told = told_none on refl to told
  step_makes (Err e) to told = tt

-- ---- a call begins

module _ (app : App) (name : List ℕ) (history : List Entry) (old : AConnection) (p : IsConnection app name history old) where
  none_unbegun : unbegun app history (as_conn old) ≡ None → outcome app history (as_conn old) act.Begin ≡ answer.Idle
  none_unbegun e = idle_of app history (as_conn old) act.Begin
      (ap (λ (o : Option Blocking). not old.is_dropped && is_some o) e ∙ right_false (not old.is_dropped))

  blocking_is : (o : Option Blocking) → old.session.carried.own.blocking ≡ o →
      unbegun app history (as_conn old) ≡ without_run (held_in app history) (as_conn old) o
  blocking_is o is = ap (without_run (held_in app history) (as_conn old)) (ap (λ (st : State). st.blocking) (state_is app name history old p) ∙ is)

  -- there is none to begin where no call blocks
  pub begin_none : old.session.carried.own.blocking ≡ None → outcome app history (as_conn old) act.Begin ≡ answer.Idle
  begin_none none = none_unbegun (blocking_is None none)

  module _ (b : Blocking) (blocks : old.session.carried.own.blocking ≡ Some b) where
    -- nor where it has a run, or a refusal of it is kept
    pub begin_begun : is_some (status_in (held_in app history) old.session.carried.number b.k) ≡ true →
        outcome app history (as_conn old) act.Begin ≡ answer.Idle
    begin_begun run = none_unbegun
        (blocking_is (Some b) blocks ∙ ap (λ x. cond x None (Some b))
        (or_left (is_some (status_in (held_in app history) old.session.carried.number b.k)) (is_kept b.k old.kept) run))

    pub begin_refused : is_kept b.k old.kept ≡ true → outcome app history (as_conn old) act.Begin ≡ answer.Idle
    begin_refused kept = none_unbegun
        (blocking_is (Some b) blocks ∙ ap (λ x. cond x None (Some b))
        (or_right (is_some (status_in (held_in app history) old.session.carried.number b.k)) (is_kept b.k old.kept) kept))

    module _ (there : old.is_dropped ≡ false) (run : is_some (status_in (held_in app history) old.session.carried.number b.k) ≡ false)
        (free : is_kept b.k old.kept ≡ false) (seed : Value) (same : view seed ≡ b.seed) (next : MachineState) where
      unbegun_is : unbegun app history (as_conn old) ≡ Some b
      unbegun_is = blocking_is (Some b) blocks
          ∙ ap (λ x. cond x None (Some b)) (or_from (is_some (status_in (held_in app history) old.session.carried.number b.k)) (is_kept b.k old.kept) run free)

      begin_can : outcome app history (as_conn old) act.Begin ≡ answer.Done
      begin_can = done_of app history (as_conn old) act.Begin (ap₂ (λ (d : Bool) (o : Option Blocking). not d && is_some o) there unbegun_is) refl refl

      begun_is : (full : Bool) → is_refused app history b ≡ full →
          entries app history (as_conn old) act.Begin ≡ cond full [] (begin_entry old.session.carried.number b ∷ [])
      begun_is full is = ap (begun app history old.session.carried.number) unbegun_is ∙ ap (λ x. cond x [] (begin_entry old.session.carried.number b ∷ [])) is

      kept_is : (full : Bool) → is_refused app history b ≡ full →
          refusal_kept app history (unbegun app history (as_conn old)) old.kept ≡ cond full (Some (record { k = b.k; at = length history })) old.kept
      kept_is full is = ap (λ (o : Option Blocking). refusal_kept app history o old.kept) unbegun_is
          ∙ ap (λ x. cond x (Some (record { k = b.k; at = length history })) old.kept) is

      -- what the machine answers, by whether the history is full
      abbrev begin_gives : Bool → Result MachineState BeginFault
      begin_gives full = cond full (Err (full_with (machine app history) b.method b.params (view seed)))
          (Ok (with_entry (machine app history) (entry.Begin old.session.carried.number b.k b.method b.params seed)))

      full_is : is_full (programs app) (held_in app history) b.method b.params (view seed) ≡ is_refused app history b
      full_is = ap (λ (v : Val). is_full (programs app) (held_in app history) b.method b.params v) same

      answer_is : begin_answer (machine app history) old.session.carried.number b.k b.method b.params seed ≡ begin_gives (is_refused app history b)
      answer_is =
          ap (λ x. cond x (Ok (machine app history)) (begin_gives (is_full (programs app) (held_in app history) b.method b.params (view seed)))) run
          ∙ ap begin_gives full_is

      entry_is : entry.Begin old.session.carried.number b.k b.method b.params seed ≡ begin_entry old.session.carried.number b
      entry_is = ap (λ (v : Value). entry.Begin old.session.carried.number b.k b.method b.params v) (sym (value_of-view seed) ∙ ap value_of same)

      begun_made : (full : Bool) → is_refused app history b ≡ full → begin_gives full ≡ Ok next →
          IsDone app name history act.Begin old old × (next ≡ machine app (history ++ entries app history (as_conn old) act.Begin))
      begun_made true is e = absurd (err_ok (full_with (machine app history) b.method b.params (view seed)) next e)
      begun_made false is e =
          let to : with_entry (machine app history) (entry.Begin old.session.carried.number b.k b.method b.params seed) ≡ next =
          same_ok (with_entry (machine app history) (entry.Begin old.session.carried.number b.k b.method b.params seed)) next e in (
            record { can = begin_can; does = λ j. record (as_conn old) { kept = sym (kept_is false is) j }; stays = p },
            sym to ∙ (ap (λ (x : Entry). machine app (history ++ x ∷ [])) entry_is
                ∙ ap (λ (es : List Entry). machine app (history ++ es)) (sym (begun_is false is))),
          )

      refusal_made : (many kept : ℕ) (full : Bool) → is_refused app history b ≡ full → begin_gives full ≡ Err (fault.Full many kept) →
          IsDone app name history act.Begin old (with_refusal b.k (length history) old) × (entries app history (as_conn old) act.Begin ≡ [])
      refusal_made many kept false is e = absurd
          (err_ok (fault.Full many kept) (with_entry (machine app history) (entry.Begin old.session.carried.number b.k b.method b.params seed)) (sym e))
      refusal_made many kept true is e = (
        record {
          can = begin_can;
          does = λ j. record (as_conn old) { kept = sym (kept_is true is) j };
          stays = record { stubs = p.stubs; named = p.named; served = p.served; means = p.means; bytes = p.bytes; dropped = p.dropped; kinds = p.kinds };
        },
        begun_is true is,
      )

      pub begin_makes : {X : Type 0} (result : Result X BeginFault) →
          BeginGives (λ (x : X). next) result (begin_answer (machine app history) old.session.carried.number b.k b.method b.params seed) →
          MakesBeginning app name history b old next result
      begin_makes (Ok x) gives = begun_made (is_refused app history b) refl (sym answer_is ∙ gives)
      begin_makes (Err (fault.Full many kept)) gives = refusal_made many kept (is_refused app history b) refl (sym answer_is ∙ gives)
      begin_makes (Err fault.Memory) gives = tt

-- a call that blocks and has no run may be begun
pub may_begin : (app : App) (name : List ℕ) (history : List Entry) (old : AConnection) → IsConnection app name history old →
    IsServed app history (as_conn old) → (b : Blocking) → old.session.carried.own.blocking ≡ Some b →
    is_some (status_in (held_in app history) old.session.carried.number b.k) ≡ false →
    (is_some (method app b.method) ≡ true) × (is_next old.session.carried.number b.k (held_in app history).runs ≡ true)
may_begin app name history old p known b blocks none =
    begin_next app history (as_conn old) b (ap (λ (st : State). st.blocking) (state_is app name history old p) ∙ blocks) none known
