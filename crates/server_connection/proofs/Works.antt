-- What looks at the store leave, one after another.
use Rattle.std.specs.Prelude.{◌≡◌, ◌⊎◌, ℕ, suc, ◌+◌, ◌<◌, ◌≤◌, List, [], ◌∷◌, ◌++◌, length, Bool, true, false, cond, nat_lt, Option, None, Some, is_some, IfSome, Result, Ok, Err, refl}
use Rattle.std.proofs.Common.{ap, sym, subst, ◌∙◌, arith, inl, inr, length-append}
use Rattle.std.proofs.Math.Seq.{take-length}
use mathlib.Core.List.{IsPrefix}
use Rattle.std.specs.List.{list_any}
use Rattle.value_model.specs.Val.{Val}
use Rattle.ejson_value.specs.View.{view}
use Rattle.ejson_value.specs.declared.value.Value.{Value}
use Rattle.ejson_value.specs.declared.memory.Mem.{Mem}
use Rattle.app_model.specs.App.{App, method}
use Rattle.program_steps.specs.declared.outcome.Status.{Status}
use Rattle.pass_log.specs.History.{longer}
use Rattle.history_model.specs.declared.entry.Entry.{Entry}
use Rattle.history_model.specs.declared.entry.Entry.TheVariants as entry
use Rattle.history_model.specs.History.{held, held_at, status_in, is_full, begins}
use Rattle.history_model.specs.BegunLaws.{run_where_begun}
use Rattle.world_model.specs.Store.{programs, moments}
use Rattle.session_model.specs.Methods.{Blocking, is_blocked_by}
use Rattle.session_model.specs.State.{State, started, state_of}
use Rattle.session_journal_laws.specs.BlockingLaws.{last_from}
use Rattle.world_invariant_laws.specs.Moments.{moments_length}
use Rattle.session_journal_laws.specs.Stands.{items_of}
use Rattle.session_state.specs.Work.{running_from}
use Rattle.store_machine.specs.declared.fault.BeginFault.{BeginFault}
use Rattle.store_machine.specs.declared.fault.BeginFault.TheVariants as begin
use Rattle.store_machine.specs.State.{MachineState, held_by, with_entry, full_with, begin_answer}
use Rattle.shared_store.specs.declared.answers.Placed.{Placed}
use Rattle.shared_store.specs.declared.answers.SharedBegin.{SharedBegin}
use Rattle.shared_store.specs.declared.answers.SharedBegin.TheVariants as shared
use Rattle.shared_store.specs.Counting.{made_by}
use Rattle.shared_store.specs.Callers.{ACaller}
use Rattle.shared_store.specs.Store.{over, Begins, IsNotNext, StepsOn, StepsAt, Tells, HasCounted, IsShown}
use Rattle.shared_session.specs.Held.{AHeld, Stands}
use Rattle.shared_session.specs.Standing.{WasSo, HadNoRoom}
use Rattle.shared_session.specs.Events.{Keeps}
use Rattle.shared_session.specs.ReachedLaws.{reached_from}
use Rattle.server_connection.specs.AtRest.{AreDone, are_at, IsIdle}
use Rattle.server_connection.specs.Looks.{Stays, Sees, begun_below, IsForeign, IsServed, Works, HadNoRoomFor, RestsAsItStands}
use Rattle.server_connection.proofs.Journals.{blocking_known, are_done, opens}
use Rattle.server_connection.proofs.Counts.{prefix_same, prefix_is, prefix_then, below_prefix, below_more, below_begun, more_made}

module _ (app : App) where
  -- ---- what is kept

  pub keeps_same : (h : AHeld) → Keeps h h
  keeps_same h taken sent m = m

  -- the session goes on by itself
  pub served_stays : (caller : ACaller) (pass : List Entry) (old new : AHeld) → IsServed app caller pass old → Stays old new → IsServed app caller pass new
  served_stays caller pass old new s q = record {
    of_app = q.still.app ∙ s.of_app;
    number = q.still.number ∙ s.number;
    some = s.some;
    alive = q.still.dropped ∙ s.alive;
    within = subst (λ es. IsPrefix es pass) (sym q.list) s.within;
    made = let more = below_more caller.number (length old.session.carried.own.methods) (length new.session.carried.own.methods) pass q.still.calls in omega (arith, s.made, more);
    stands = q.stands s.stands;
  }

  -- the history goes on
  pub served_grows : (caller : ACaller) (pass pass' : List Entry) (h : AHeld) → IsServed app caller pass h → IsPrefix pass pass' → IsServed app caller pass' h
  served_grows caller pass pass' h s p = record {
    of_app = s.of_app;
    number = s.number;
    some = s.some;
    alive = s.alive;
    within = prefix_then h.list pass pass' s.within p;
    made = let more = below_prefix caller.number (length h.session.carried.own.methods) pass pass' p in omega (arith, s.made, more);
    stands = s.stands;
  }

  -- the longer of two lists, of which the second begins with the first
  within_longer : (xs ys : List Entry) → IsPrefix xs ys → IsPrefix (longer xs ys) ys
  within_longer xs ys p = elim (nat_lt (length xs) (length ys)) as (λ b. IsPrefix (cond b ys xs) ys) [ true ↦ prefix_same ys | false ↦ p ]

  pub served_sees : (caller : ACaller) (pass : List Entry) (old new : AHeld) → IsServed app caller pass old → Sees pass old new → IsServed app caller pass new
  served_sees caller pass old new s q = record {
    of_app = q.still.app ∙ s.of_app;
    number = q.still.number ∙ s.number;
    some = s.some;
    alive = q.still.dropped ∙ s.alive;
    within = subst (λ es. IsPrefix es pass) (sym q.meets.list) (within_longer old.list pass s.within);
    made = let more = below_more caller.number (length old.session.carried.own.methods) (length new.session.carried.own.methods) pass q.still.calls in omega (arith, s.made, more);
    stands = record { taken = s.stands.taken; sent = s.stands.sent; for = q.keeps s.stands.taken s.stands.sent s.stands.for };
  }

  -- ---- looks

  pub works_same : (caller : ACaller) (pass : List Entry) (h : AHeld) → IsServed app caller pass h → Works app caller caller pass pass h h
  works_same caller pass h s = record { served = s; keeps = λ taken sent m. m; grows = prefix_same pass; number = refl; list = prefix_same caller.list }

  pub works_grows : (caller : ACaller) (pass pass' : List Entry) (h : AHeld) → IsServed app caller pass h → IsPrefix pass pass' → Works app caller caller pass pass' h h
  works_grows caller pass pass' h s p = record { served = served_grows caller pass pass' h s p; keeps = λ taken sent m. m; grows = p; number = refl; list = prefix_same caller.list }

  pub works_stays : (caller : ACaller) (pass : List Entry) (old new : AHeld) → IsServed app caller pass old → Stays old new → Keeps old new → Works app caller caller pass pass old new
  works_stays caller pass old new s q keeps = record { served = served_stays caller pass old new s q; keeps = keeps; grows = prefix_same pass; number = refl; list = prefix_same caller.list }

  pub works_sees : (caller : ACaller) (pass : List Entry) (old new : AHeld) → IsServed app caller pass old → Sees pass old new → Works app caller caller pass pass old new
  works_sees caller pass old new s q = record { served = served_sees caller pass old new s q; keeps = q.keeps; grows = prefix_same pass; number = refl; list = prefix_same caller.list }

  pub works_then : (a b c : ACaller) (p q r : List Entry) (x y z : AHeld) → Works app a b p q x y → Works app b c q r y z → Works app a c p r x z
  works_then a b c p q r x y z v w = record {
    served = w.served;
    keeps = λ taken sent m. w.keeps taken sent (v.keeps taken sent m);
    grows = prefix_then p q r v.grows w.grows;
    number = w.number ∙ v.number;
    list = prefix_then a.list b.list c.list v.list w.list;
  }

  -- the history goes on, and the session learns of it
  pub works_on : (caller : ACaller) (pass pass' : List Entry) (old new : AHeld) → IsServed app caller pass old → IsPrefix pass pass' → Sees pass' old new → Works app caller caller pass pass' old new
  works_on caller pass pass' old new s p q =
      let grown = served_grows caller pass pass' old s p in
      record { served = served_sees caller pass' old new grown q; keeps = q.keeps; grows = p; number = refl; list = prefix_same caller.list }

  -- the pass does not change
  pub works_here : (caller : ACaller) (pass pass' : List Entry) (old new : AHeld) → pass' ≡ pass → Works app caller caller pass pass old new → Works app caller caller pass pass' old new
  works_here caller pass pass' old new e w = subst (λ es. Works app caller caller pass es old new) (sym e) w

  -- a call of the store shows the pass the whole history
  pub shown_grows : (before pass pass' : List Entry) → IsShown app before pass' pass pass' → IsPrefix before pass' → IsPrefix pass pass'
  shown_grows before pass pass' s p = prefix_then pass before pass' s.seen p

  pub read_grows : (pass pass' : List Entry) → IsShown app pass' pass' pass pass' → IsPrefix pass pass'
  read_grows pass pass' s = s.seen

  -- ---- how far a run is

  held_here : (list : List Entry) → held_at (programs app) list (length list) ≡ held (programs app) list
  held_here list = ap (λ (es : List Entry). held (programs app) es) (take-length list)

  pub was_so : (number number' k : ℕ) (list : List Entry) (status : Status) → number ≡ number' → status_in (held_by (over app list)) number' k ≡ Some status → WasSo app number list k status
  was_so number number' k list status same is = record {
    place = length list;
    within = omega arith;
    so = ap (λ h. status_in h number k) (held_here list) ∙ (ap (λ n. status_in (held (programs app) list) n k) same ∙ is);
  }

  -- ---- the call that blocks

  journal_of : (h : AHeld) → Stands h → State
  journal_of h s = state_of (items_of s.taken h.session.carried)

  pub call_known : (caller : ACaller) (pass : List Entry) (h : AHeld) (b : Blocking) → IsServed app caller pass h → h.session.carried.own.blocking ≡ Some b → is_some (method app b.method) ≡ true
  call_known caller pass h b s is =
      let x = h.session.carried.app in
      let n = h.session.carried.number in
      let items = items_of s.stands.taken h.session.carried in
      let own : (state_of items).blocking ≡ Some b = ap (λ (st : State). st.blocking) (sym s.stands.for.stands.own) ∙ is in
      subst (λ (a : App). is_some (method a b.method) ≡ true) s.of_app (blocking_known x n (moments x n h.list) items s.stands.for.stands.fits b own)

  -- it is the last of the session's calls
  pub call_last : (h : AHeld) (b : Blocking) → Stands h → h.session.carried.own.blocking ≡ Some b → suc b.k ≡ length h.session.carried.own.methods
  call_last h b s is =
      let x = h.session.carried.app in
      let n = h.session.carried.number in
      let items = items_of s.taken h.session.carried in
      let own : (state_of items).blocking ≡ Some b = ap (λ (st : State). st.blocking) (sym s.for.stands.own) ∙ is in
      let blocks : is_blocked_by b.k (state_of items).blocking ≡ true = ap (is_blocked_by b.k) own ∙ same b.k in
      let last = (last_from x n (moments x n h.list) started items s.for.stands.fits (λ k e. absurd (cc e)) b.k blocks).last in
      last ∙ ap (λ (st : State). length st.methods) (sym s.for.stands.own)
    where
      same : (k : ℕ) → is_blocked_by k (Some (record { k = k; method = b.method; params = b.params; seed = b.seed })) ≡ true
      same k = grind arith

  -- ---- it begins

  module _ (before after : List Entry) (n k : ℕ) (name : List ℕ) (params : List Val) (seed : Value) where
    abbrev Begun : Type 0
    Begun = (after ≡ before) ⊎ (after ≡ before ++ entry.Begin n k name params seed ∷ [])

    abbrev has_run : Bool
    has_run = is_some (status_in (held_by (over app before)) n k)

    abbrev has_no_room : Bool
    has_no_room = is_full (programs app) (held_by (over app before)) name params (view seed)

    pub begun_after : begin_answer (over app before) n k name params seed ≡ Ok (over app after) → Begun
    begun_after e =
        elim has_run as (λ a. cond a (Ok (over app before)) (cond has_no_room (Err (full_with (over app before) name params (view seed))) (Ok (with_entry (over app before) (entry.Begin n k name params seed)))) ≡ Ok (over app after) → Begun) [
          | true ↦ λ q. (let same : over app after ≡ over app before = cc q in inl (ap (λ (m : MachineState). m.history) same))
          | false ↦ elim has_no_room as (λ b. cond b (Err (full_with (over app before) name params (view seed))) (Ok (with_entry (over app before) (entry.Begin n k name params seed))) ≡ Ok (over app after) → Begun) [
            | true ↦ λ q. absurd (cc q)
            | false ↦ λ q. (let same : over app after ≡ with_entry (over app before) (entry.Begin n k name params seed) = cc q in inr (ap (λ (m : MachineState). m.history) same))
          ]
        ] e

    pub full_before : (fault : BeginFault) → begin_answer (over app before) n k name params seed ≡ Err fault → (status_in (held_by (over app before)) n k ≡ None) × (has_no_room ≡ true)
    full_before fault e =
        elim has_run as (λ a. has_run ≡ a → cond a (Ok (over app before)) (cond has_no_room (Err (full_with (over app before) name params (view seed))) (Ok (with_entry (over app before) (entry.Begin n k name params seed)))) ≡ Err fault
        → (status_in (held_by (over app before)) n k ≡ None) × (has_no_room ≡ true)) [
          | true ↦ λ is q. absurd (cc q)
          | false ↦ λ is. elim has_no_room as (λ b. has_no_room ≡ b → cond b (Err (full_with (over app before) name params (view seed))) (Ok (with_entry (over app before) (entry.Begin n k name params seed))) ≡ Err fault
              → (status_in (held_by (over app before)) n k ≡ None) × (has_no_room ≡ true)) [
                | true ↦ λ full q. (none (status_in (held_by (over app before)) n k) is, full)
                | false ↦ λ full q. absurd (cc q)
              ] refl
        ] refl e
      where
        none : (o : Option Status) → is_some o ≡ false → o ≡ None
        none None is = refl
        none (Some x) is = cc is

    -- the caller counts it
    pub begun_served : (caller caller' : ACaller) (pass : List Entry) (h : AHeld) (b : Blocking) → IsServed app caller pass h → h.session.carried.own.blocking ≡ Some b → b.k ≡ k → n ≡ caller.number → IsPrefix pass before → Begun
        → HasCounted before after caller caller' → IsServed app caller' after h
    begun_served caller caller' pass h b s is bk same seen begun counted =
        let most = length h.session.carried.own.methods in
        let last : suc b.k ≡ most = call_last h b s.stands is in
        let least = below_prefix caller.number most pass before seen in
        record {
          of_app = s.of_app;
          number = s.number ∙ sym counted.number;
          some = subst (λ j. 0 < j) (sym counted.number) s.some;
          alive = s.alive;
          within = prefix_then h.list before after (prefix_then h.list pass before s.within seen) (grows begun);
          made = subst (λ j. caller'.made ≤ begun_below j most after) (sym counted.number) (by begun least last);
          stands = s.stands;
        }
      where
        grows : Begun → IsPrefix before after
        grows (inl e) = prefix_is before after e
        grows (inr e) = (entry.Begin n k name params seed ∷ [], sym e)

        by : Begun → begun_below caller.number (length h.session.carried.own.methods) pass ≤ begun_below caller.number (length h.session.carried.own.methods) before → suc b.k ≡ length h.session.carried.own.methods
            → caller'.made ≤ begun_below caller.number (length h.session.carried.own.methods) after
        by (inl e) least last =
            let counts = counted.made in
            let long : length after ≡ length before = ap length e in
            let there : begun_below caller.number (length h.session.carried.own.methods) after ≡ begun_below caller.number (length h.session.carried.own.methods) before = ap (begun_below caller.number (length h.session.carried.own.methods)) e in
            omega (arith, counts, long, there, least, s.made)
        by (inr e) least last =
            let counts = counted.made in
            let long : length after ≡ length before + 1 = ap length e ∙ length-append before (entry.Begin n k name params seed ∷ []) in
            let less : k < length h.session.carried.own.methods = omega (arith, last, bk) in
            let there : begun_below caller.number (length h.session.carried.own.methods) after ≡ begun_below caller.number (length h.session.carried.own.methods) before + 1 =
            ap (begun_below caller.number (length h.session.carried.own.methods)) e
            ∙ (ap (λ j. begun_below caller.number (length h.session.carried.own.methods) (before ++ entry.Begin j k name params seed ∷ [])) same
            ∙ below_begun caller.number (length h.session.carried.own.methods) k before name params seed s.some less) in
            omega (arith, counts, long, there, least, s.made)

    pub begun_grows : Begun → IsPrefix before after
    begun_grows (inl e) = prefix_is before after e
    begun_grows (inr e) = (entry.Begin n k name params seed ∷ [], sym e)

    -- what an attempt to begin it leaves
    pub attempt_works : (caller caller' : ACaller) (pass : List Entry) (h : AHeld) (b : Blocking) → IsServed app caller pass h → h.session.carried.own.blocking ≡ Some b → b.k ≡ k → n ≡ caller.number → Begun
        → IsShown app before after pass after → HasCounted before after caller caller' → Works app caller caller' pass after h h
    attempt_works caller caller' pass h b s is bk same begun shown counted = record {
      served = begun_served caller caller' pass h b s is bk same shown.seen begun counted;
      keeps = λ taken sent m. m;
      grows = prefix_then pass before after shown.seen (begun_grows begun);
      number = counted.number;
      list = subst (λ es. IsPrefix caller.list es) (sym counted.whole) (prefix_then caller.list before after counted.seen (begun_grows begun));
    }

    -- there was no room for it
    pub no_room : (h : AHeld) (b : Blocking) → h.session.carried.own.blocking ≡ Some b → b ≡ record { k = k; method = name; params = params; seed = view seed } → h.session.carried.number ≡ n → after ≡ before
        → (fault : BeginFault) → begin_answer (over app before) n k name params seed ≡ Err fault → HadNoRoomFor app after k h.session
    no_room h b is call number same fault e =
        let x = full_before fault e in
        let here : held_at (programs app) after (length after) ≡ held_by (over app before) = held_here after ∙ ap (λ (es : List Entry). held (programs app) es) same in
        subst (λ (o : Option Blocking). IfSome o (λ (c : Blocking). c.k ≡ k → HadNoRoom app h.session.carried.number after (length after) k c)) (sym is) (λ its. record {
          within = omega arith;
          unbegun = ap (λ y. status_in y h.session.carried.number k) here ∙ (ap (λ j. status_in (held_by (over app before)) j k) number ∙ x.0);
          full = ap (λ (c : Blocking). is_full (programs app) (held_at (programs app) after (length after)) c.method c.params c.seed) call ∙ (ap (λ y. is_full (programs app) y name params (view seed)) here ∙ x.1);
        })

  -- ---- the next step of a run

  pub step_grows : (session k : ℕ) (before pass pass' : List Entry) (r : Result (Option Placed) Mem) → StepsAt app session k before pass pass' r → IsPrefix pass pass'
  step_grows session k before pass pass' (Ok (Some placed)) a = prefix_then pass before pass' a.shown.seen (entry.Step session k ∷ [], sym a.steps.history)
  step_grows session k before pass pass' (Ok None) a = prefix_then pass before pass' a.shown.seen (prefix_is before pass' a.steps.0)
  step_grows session k before pass pass' (Err e) a = prefix_then pass before pass' a.shown.seen (prefix_is before pass' a.steps)

  -- the history has gone on, and the session learns of it
  pub works_learnt : (caller : ACaller) (pass pass' pass'' : List Entry) (old new : AHeld) → IsServed app caller pass old → IsPrefix pass pass' → pass'' ≡ pass' → Sees pass' old new → Works app caller caller pass pass'' old new
  works_learnt caller pass pass' pass'' old new s p same q = subst (λ es. Works app caller caller pass es old new) (sym same) (works_on caller pass pass' old new s p q)

  -- ---- the call's number is not the next

  pub foreign_by : (caller caller' : ACaller) (pass before : List Entry) (h : AHeld) (b : Blocking) (last : ℕ) → IsServed app caller pass h → h.session.carried.own.blocking ≡ Some b → b.k < last → IsPrefix pass before
      → is_some (status_in (held_by (over app before)) caller.number last) ≡ true → caller'.number ≡ caller.number → caller'.made ≡ caller.made → IsForeign last caller' before
  foreign_by caller caller' pass before h b last s is above seen there number made =
      let most = length h.session.carried.own.methods in
      let ends : suc b.k ≡ most = call_last h b s.stands is in
      let begun : list_any (begins (caller.number, last)) before ≡ true = sym (run_where_begun (programs app) before caller.number last) ∙ there in
      let more = more_made caller.number most last before s.some (omega (arith, ends, above)) begun in
      let least = below_prefix caller.number most pass before seen in
      record {
        begun = subst (λ j. list_any (begins (j, last)) before ≡ true) (sym number) begun;
        more = subst (λ j. caller'.made < made_by j before) (sym number) (omega (arith, made, s.made, least, more));
      }

  -- ---- rest

  -- nothing is left to be done, and all is sent
  pub rests : (place : ℕ) (h : AHeld) → length h.list ≤ place → IsIdle place h.session → h.session.carried.outbox ≡ [] → RestsAsItStands h
  rests place h le idle sent taken texts m =
      let x = h.session.carried.app in
      let n = h.session.carried.number in
      let items = items_of taken h.session.carried in
      let own = m.stands.own in
      let w = reached_from x n (moments x n h.list) (length h.list) (moments_length x n h.list) started items m.stands.fits (omega arith, tt) in
      let done = are_done items place (omega (arith, w.0, le)) (subst (λ (st : State). are_at place st.subs ≡ true) own idle.shown) (subst (λ (st : State). running_from 0 st.methods ≡ []) own idle.ended) in
      record {
        handled = idle.handled;
        free = idle.free;
        done = subst (λ (st : State). AreDone st.methods) (sym own) done;
        shown = opens place (length h.list) h.session.carried.own.subs le idle.shown;
        sent = sent;
      }

  -- ---- what a call of the store answered

  pub stepped_status : (n k : ℕ) (before pass pass' : List Entry) (r : Result (Option Placed) Mem) (placed : Placed) → StepsAt app n k before pass pass' r → r ≡ Ok (Some placed) → status_in (held_by (over app pass')) n k ≡ Some placed.status
  stepped_status n k before pass pass' r placed a is =
      let steps : StepsOn app n k before pass' (Ok (Some placed)) = subst (λ (x : Result (Option Placed) Mem). StepsOn app n k before pass' x) is a.steps in steps.status

  pub told_status : (n k : ℕ) (list : List Entry) (r : Result (Option Placed) Mem) (placed : Placed) → Tells app n k list r → r ≡ Ok (Some placed) → status_in (held_by (over app list)) n k ≡ Some placed.status
  told_status n k list r placed tells is =
      let told : Tells app n k list (Ok (Some placed)) = subst (λ (x : Result (Option Placed) Mem). Tells app n k list x) is tells in told.0

  module _ (n k : ℕ) (name : List ℕ) (params : List Val) (seed : Value) (before after : List Entry) (f : SharedBegin) where
    abbrev Refused : SharedBegin → Type 0
    Refused x = Begins app n k name params seed before after (Err x)

    pub full_is : (entries kept : ℕ) → f ≡ shared.Full entries kept → Refused f → (after ≡ before) × (begin_answer (over app before) n k name params seed ≡ Err (begin.Full entries kept))
    full_is entries kept is b = subst Refused is b

    pub not_next_is : (last : ℕ) → f ≡ shared.NotNext last → Refused f → (after ≡ before) × IsNotNext app n k last before
    not_next_is last is b = subst Refused is b

    pub memory_is : f ≡ shared.Memory → Refused f → after ≡ before
    memory_is is b = subst Refused is b
