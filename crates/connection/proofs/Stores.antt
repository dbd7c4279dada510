-- What a session does with its store, as the acts of the definitions.
use Rattle.std.specs.Prelude.{◌≡◌, ℕ, ◌+◌, ◌≤◌, ◌<◌, List, ◌++◌, length, Bool, true, false, Option, Some, None, is_some, option_map, ◌&&◌, nat_le, Result, Ok, Err, OnOk, IfOk, if◌then◌else◌, refl}
use Rattle.std.proofs.Common.{ap, sym, subst, ◌∙◌, append-nil}
use Rattle.std.proofs.lemmas.Bool.{lt-leb, eq-eqb}
use Rattle.ejson_value.specs.declared.change.Change.{Change}
use Rattle.ejson_value.specs.declared.change.Publish.{Publish}
use Rattle.ejson_value.specs.Rows.{Rows}
use Rattle.program_steps.specs.declared.outcome.Status.{Status}
use Rattle.app_model.specs.App.{App, method}
use Rattle.connection.specs.history_model.declared.entry.Entry.{Entry}
use Rattle.connection.specs.history_model.History.{held_at, status_in, status_at, is_next, changes_between}
use Rattle.connection.specs.store_machine.declared.fault.BeginFault.{BeginFault}
use Rattle.connection.specs.store_machine.declared.fault.BeginFault.TheVariants as begin_fault
use Rattle.connection.specs.store_machine.State.{MachineState, held_by, begin_answer, is_running, step_state}
use Rattle.connection.specs.session_model.Subscriptions.{cursor_of, may_load}
use Rattle.connection.specs.session_model.State.{State}
use Rattle.connection.specs.session_laws.declared.fault.EventFault.{EventFault}
use Rattle.connection.specs.session_laws.Session.{ASession}
use Rattle.connection.specs.session_laws.Events.{Learns as LearnsIn, Refuses, Loads, Advances, Feeds, IsFeed}
use Rattle.connection.specs.session_state.declared.own.Call.{Call}
use Rattle.connection.specs.session_state.Own.{as_blocking}
use Rattle.connection.specs.world_model.declared.events.Act.TheVariants as act
use Rattle.connection.specs.world_model.declared.events.Answer.{Answer}
use Rattle.connection.specs.world_model.declared.events.Answer.TheVariants as answer
use Rattle.connection.specs.world_model.Store.{programs, held_in, moments}
use Rattle.connection.specs.world_model.Conn.{is_at_work}
use Rattle.connection.specs.world_model.Acts.{is_kept}
use Rattle.connection.specs.world_invariant_laws.Session.{IsServed}
use Rattle.connection.specs.connection_laws.Connection.{AConnection, as_conn, IsConnection}
use Rattle.connection.specs.connection_laws.Acting.{with_session, refusal_learnt, IsDone}
use Rattle.connection.specs.connection_laws.StandingLaws.{state_is, idle_of}
use Rattle.connection.specs.connection_laws.Links.{gone_idle}
use Rattle.connection.specs.connection_laws.BeginningLaws.{begin_begun, begin_refused, begin_makes}
use Rattle.connection.specs.connection_laws.BeginningLaws.{begin_none, step_makes, may_begin}
use Rattle.connection.specs.connection_laws_for_proofs.Learning.{learn_makes, learn_past, learn_unbegun, refuse_makes}
use Rattle.connection.specs.connection_laws_for_proofs.Showing.{load_makes, load_past, advance_makes, advance_unloaded, advance_past, feed_makes}
use Rattle.connection.specs.declared.side.Refusal.{Refusal}
use Rattle.connection.specs.declared.side.Side.{Side}
use Rattle.connection.specs.Kept.{as_refusal, seen, IsKept}
use Rattle.connection.specs.Answers.{Acts, IsRefusal, AnswersIn}
use Rattle.connection.specs.Storing.{Enters, IsTurnedDown, Tries, Learns, LearnsFrom, LoadsFrom, AdvancesBy, FeedsBy}
use Rattle.connection.proofs.Refusals.{refused_acts}

-- ---- begin

module _ (a : Side) (k : IsKept a) (m : MachineState) (p : IsConnection m.app a.client.name m.history (seen a)) where
  abbrev pub Begun : MachineState → AConnection → Answer → Type 0
  Begun next new o = Acts m.app a.client.name m.history act.Begin (seen a) new o × Enters act.Begin m next (seen a) o

  pub begin_gone : a.is_dropped ≡ true → Begun m (seen a) answer.Idle
  begin_gone gone = ((gone_idle m.app m.history (seen a) act.Begin gone refl, refl), refl)

  pub begin_unblocked : a.session.carried.own.blocking ≡ None → Begun m (seen a) answer.Idle
  begin_unblocked none = ((begin_none m.app a.client.name m.history (seen a) p none, refl), refl)

  module _ (call : Call) (blocks : a.session.carried.own.blocking ≡ Some (as_blocking call)) where
    pub begin_kept : is_kept call.k (option_map as_refusal a.kept) ≡ true → Begun m (seen a) answer.Idle
    begin_kept kept = ((begin_refused m.app a.client.name m.history (seen a) p (as_blocking call) blocks kept, refl), refl)

    here : (b : Bool) → is_some (status_in (held_by m) a.number call.k) ≡ b → is_some (status_in (held_in m.app m.history) a.session.carried.number call.k) ≡ b
    here b e = ap (λ n. is_some (status_in (held_by m) n call.k)) k.number ∙ e

    pub begin_ran : is_some (status_in (held_by m) a.number call.k) ≡ true → Begun m (seen a) answer.Idle
    begin_ran run = ((begin_begun m.app a.client.name m.history (seen a) p (as_blocking call) blocks (here true run), refl), refl)

    module _ (there : a.is_dropped ≡ false) (run : is_some (status_in (held_by m) a.number call.k) ≡ false) (free : is_kept call.k (option_map as_refusal a.kept) ≡ false) where
      pub begin_known : IsServed m.app m.history (as_conn (seen a)) → is_some (method m.app call.method) ≡ true
      begin_known served = (may_begin m.app a.client.name m.history (seen a) p served (as_blocking call) blocks (here false run)).0

      pub begin_follows : IsServed m.app m.history (as_conn (seen a)) → is_next a.number call.k (held_by m).runs ≡ true
      begin_follows served =
          ap (λ n. is_next n call.k (held_by m).runs) (sym k.number) ∙ (may_begin m.app a.client.name m.history (seen a) p served (as_blocking call) blocks (here false run)).1

      module _ (next : MachineState) where
        pub begin_done : Tries a.number call m next (let r : Result (Option Refusal) (Unit {0}) = Ok None in r) → Begun next (seen a) answer.Done
        begin_done g =
            let result : Result (Unit {0}) BeginFault = Ok tt in
            begin_makes m.app a.client.name m.history (seen a) p (as_blocking call) blocks there (here false run) free call.seed refl next result
            (subst (λ n. begin_answer m n call.k call.method call.params call.seed ≡ Ok next) (sym k.number) g)

        pub begin_full : (r : Refusal) → IsTurnedDown a.number call m r → next ≡ m → Begun next (seen (record a { kept = Some r })) answer.Done
        begin_full r g same =
            let result : Result (Unit {0}) BeginFault = Err (begin_fault.Full g.many g.kept) in
            let made = begin_makes m.app a.client.name m.history (seen a) p (as_blocking call) blocks there (here false run) free call.seed refl next result
            (subst (λ n. begin_answer m n call.k call.method call.params call.seed ≡ Err (begin_fault.Full g.many g.kept)) (sym k.number) g.is) in (
              subst (λ (x : Refusal). IsDone m.app a.client.name m.history act.Begin (seen a) (seen (record a { kept = Some x }))) (sym g.refusal) made.0,
              same ∙ ap (λ (es : List Entry). record m { history = es }) (sym (append-nil m.history) ∙ ap (λ (es : List Entry). m.history ++ es) (sym made.1)),
            )

-- ---- step

module _ (a : Side) (k : IsKept a) (m next : MachineState) (j : ℕ) where
  to_here : {E : Type 0} (result : Result (Option Status) E) → OnOk result (next ≡ step_state m a.number j) → OnOk result (next ≡ step_state m a.session.carried.number j)
  to_here result to = subst (λ n. OnOk result (next ≡ step_state m n j)) (sym k.number) to

  told_here : {E : Type 0} (result : Result (Option Status) E) → IfOk result (λ status. status ≡ (if is_running m a.number j then status_in (held_by next) a.number j else None)) →
      IfOk result (λ status. status ≡ (if is_running m a.session.carried.number j then status_in (held_by next) a.session.carried.number j else None))
  told_here result told = subst (λ n. IfOk result (λ status. status ≡ (if is_running m n j then status_in (held_by next) n j else None))) (sym k.number) told

  pub step_done : (status : Status) → next ≡ step_state m a.number j → Some status ≡ (if is_running m a.number j then status_in (held_by next) a.number j else None) →
      (name : List ℕ) → IsConnection m.app name m.history (seen a) → Acts m.app name m.history (act.Step j) (seen a) (seen a) answer.Done × Enters (act.Step j) m next (seen a) answer.Done
  step_done status to told name p =
      let result : Result (Option Status) (Unit {0}) = Ok (Some status) in
      step_makes m.app name m.history (seen a) p j next result (to_here result to) (told_here result told)

  pub step_idle : next ≡ step_state m a.number j → None ≡ (if is_running m a.number j then status_in (held_by next) a.number j else None) →
      (name : List ℕ) → IsConnection m.app name m.history (seen a) → Acts m.app name m.history (act.Step j) (seen a) (seen a) answer.Idle × Enters (act.Step j) m next (seen a) answer.Idle
  step_idle to told name p =
      let result : Result (Option Status) (Unit {0}) = Ok None in
      let made = step_makes m.app name m.history (seen a) p j next result (to_here result to) (told_here result told) in ((made.0, refl), made.1)

-- ---- learn

module _ (a : Side) (j : ℕ) (r : Refusal) (is : a.kept ≡ Some r) (same : j ≡ r.k) (s : ASession) where
  kept_is : (seen a).kept ≡ Some (as_refusal r)
  kept_is = ap (option_map as_refusal) is

  its : is_kept j (Some (as_refusal r)) ≡ true
  its = eq-eqb j r.k same

  pub refusal_done : (u : Unit {0}) → Refuses j r.at a.session s (Ok u) → (app : App) (history : List Entry) (at : ℕ) (name : List ℕ) → IsConnection app name history (seen a) → IsServed app history (as_conn (seen a)) →
      Acts app name history (act.Learn j at) (seen a) (seen (record a { session = s; kept = None })) answer.Done
  refusal_done u q app history at name p served = refuse_makes app name history (seen a) p j at (as_refusal r) kept_is its served s (Ok u) q

  pub refusal_refused : {E : Type 0} (fault : EventFault) (result : Result Answer E) → Refuses j r.at a.session s (Err fault) → IsRefusal fault result → (app : App) (history : List Entry) (at : ℕ) →
      Learns app history j at (seen a) (seen (record a { session = s })) result
  refusal_refused fault (Ok o) q how app history at =
      λ name p served. refused_acts app name history (act.Learn j at) (seen a) (refusal_learnt s (seen a)) (seen (record a { session = s })) fault (Ok o) how
      (refuse_makes app name history (seen a) p j at (as_refusal r) kept_is its served s (Err fault) q) (ap (λ (x : ASession). seen (record a { session = x })) q.same) o refl
  refusal_refused fault (Err e) q how app history at = ap (λ (x : ASession). seen (record a { session = x })) q.same

module _ (a : Side) (k : IsKept a) (m : MachineState) (j at : ℕ) (free : is_kept j (option_map as_refusal a.kept) ≡ false) where
  pub status_past : length m.history < at → (name : List ℕ) → IsConnection m.app name m.history (seen a) → IsServed m.app m.history (as_conn (seen a)) → Acts m.app name m.history (act.Learn j at) (seen a) (seen a) answer.Idle
  status_past past name p served = (learn_past m.app name m.history (seen a) p j at free (lt-leb at (length m.history) past), refl)

  at_here : (o : Option Status) → o ≡ status_at (programs m.app) m.history at a.number j → status_at (programs m.app) m.history at a.session.carried.number j ≡ o
  at_here o e = ap (λ n. status_at (programs m.app) m.history at n j) k.number ∙ sym e

  pub status_none : None ≡ status_at (programs m.app) m.history at a.number j → (name : List ℕ) → IsConnection m.app name m.history (seen a) → IsServed m.app m.history (as_conn (seen a)) → Acts m.app name m.history (act.Learn j at) (seen a) (seen a) answer.Idle
  status_none e name p served = (learn_unbegun m.app name m.history (seen a) p j at free (at_here None e), refl)

  pub learns_in : {E : Type 0} (status : Status) (new : AConnection) (result : Result Answer E) → at ≤ length m.history → Some status ≡ status_at (programs m.app) m.history at a.number j → LearnsFrom j status (seen a) new result →
      Learns m.app m.history j at (seen a) new result
  learns_in status new (Ok o) le told l = λ name p served. l m.app name m.history at le (at_here (Some status) told) p
  learns_in status new (Err e) le told l = l

module _ (a : Side) (j : ℕ) (free : is_kept j (option_map as_refusal a.kept) ≡ false) (status : Status) (s : ASession) where
  pub status_done : (u : Unit {0}) → LearnsIn j status a.session s (Ok u) → (app : App) (name : List ℕ) (history : List Entry) (at : ℕ) → at ≤ length history → status_at (programs app) history at a.session.carried.number j ≡ Some status →
      IsConnection app name history (seen a) → Acts app name history (act.Learn j at) (seen a) (seen (record a { session = s })) answer.Done
  status_done u q app name history at le told p = learn_makes app name history (seen a) p j at free status le told s (Ok u) q

  pub status_refused : {E : Type 0} (fault : EventFault) (result : Result Answer E) → LearnsIn j status a.session s (Err fault) → IsRefusal fault result → LearnsFrom j status (seen a) (seen (record a { session = s })) result
  status_refused fault (Ok o) q how =
      λ app name history at le told p. refused_acts app name history (act.Learn j at) (seen a) (with_session s (seen a)) (seen (record a { session = s })) fault (Ok o) how
      (learn_makes app name history (seen a) p j at free status le told s (Err fault) q) (ap (λ (x : ASession). seen (record a { session = x })) q.same) o refl
  status_refused fault (Err e) q how = ap (λ (x : ASession). seen (record a { session = x })) q.same

-- ---- load

and_false : (b : Bool) → (b && false) ≡ false
and_false true = refl
and_false false = refl

module _ (a : Side) (sub at : ℕ) where
  pub past_load : (m : MachineState) → length m.history < at → (name : List ℕ) → IsConnection m.app name m.history (seen a) → Acts m.app name m.history (act.Load sub at) (seen a) (seen a) answer.Idle
  past_load m past name p = (load_past m.app m.history (seen a) sub at (lt-leb at (length m.history) past), refl)

  pub unready_load : (m : MachineState) → may_load sub at a.session.carried.own.subs ≡ false → (name : List ℕ) → IsConnection m.app name m.history (seen a) → Acts m.app name m.history (act.Load sub at) (seen a) (seen a) answer.Idle
  unready_load m off name p =
      let c = as_conn (seen a) in (
        idle_of m.app m.history c (act.Load sub at)
            (ap (λ (st : State). is_at_work c && nat_le at (length m.history) && may_load sub at st.subs) (state_is m.app name m.history (seen a) p)
            ∙ (ap (λ b. is_at_work c && nat_le at (length m.history) && b) off ∙ and_false (is_at_work c && nat_le at (length m.history)))),
        refl,
      )

  module _ (rows : Rows) (s : ASession) where
    pub load_done : (u : Unit {0}) → Loads sub at rows a.session s (Ok u) → (app : App) (name : List ℕ) (history : List Entry) → at ≤ length history → rows ≡ (held_at (programs app) history at).rows → IsConnection app name history (seen a) →
        Acts app name history (act.Load sub at) (seen a) (seen (record a { session = s })) answer.Done
    load_done u q app name history le is p = load_makes app name history (seen a) p s sub at rows le is (Ok u) q

    pub load_refused : {E : Type 0} (fault : EventFault) (result : Result Answer E) → Loads sub at rows a.session s (Err fault) → IsRefusal fault result → LoadsFrom sub at rows (seen a) (seen (record a { session = s })) result
    load_refused fault (Ok o) q how =
        λ app name history le is p. refused_acts app name history (act.Load sub at) (seen a) (with_session s (seen a)) (seen (record a { session = s })) fault (Ok o) how
        (load_makes app name history (seen a) p s sub at rows le is (Err fault) q) (ap (λ (x : ASession). seen (record a { session = x })) q.same) o refl
    load_refused fault (Err e) q how = ap (λ (x : ASession). seen (record a { session = x })) q.same

-- from a place of a history
pub loads_in : {E : Type 0} (app : App) (history : List Entry) (sub at : ℕ) (rows : Rows) (old new : AConnection) (result : Result Answer E) → at ≤ length history → rows ≡ (held_at (programs app) history at).rows → LoadsFrom sub at rows old new result →
    AnswersIn app history (act.Load sub at) old new result
loads_in app history sub at rows old new (Ok o) le is l = λ name p. l app name history le is p
loads_in app history sub at rows old new (Err e) le is l = l

-- ---- advance

module _ (a : Side) (sub : ℕ) where
  pub unloaded_advance : (m : MachineState) (count : ℕ) → cursor_of sub a.session.carried.own.subs ≡ None → (name : List ℕ) → IsConnection m.app name m.history (seen a) → Acts m.app name m.history (act.Advance sub count) (seen a) (seen a) answer.Idle
  unloaded_advance m count none name p = (advance_unloaded m.app name m.history (seen a) p sub count none, refl)

  pub past_advance : (m : MachineState) (from count : ℕ) → cursor_of sub a.session.carried.own.subs ≡ Some from → length m.history < from + count → (name : List ℕ) → IsConnection m.app name m.history (seen a) →
      Acts m.app name m.history (act.Advance sub count) (seen a) (seen a) answer.Idle
  past_advance m from count is past name p = (advance_past m.app name m.history (seen a) p sub count from is (lt-leb (from + count) (length m.history) past), refl)

  module _ (s : ASession) where
    pub advance_done : (from count : ℕ) (changes : List Change) (u : Unit {0}) → Advances sub from count changes a.session s (Ok u) → (app : App) (name : List ℕ) (history : List Entry) → cursor_of sub a.session.carried.own.subs ≡ Some from →
        from + count ≤ length history → length history < 18446744073709551616 → changes ≡ changes_between (programs app) history from count → IsConnection app name history (seen a) →
        Acts app name history (act.Advance sub count) (seen a) (seen (record a { session = s })) answer.Done
    advance_done from count changes u q app name history is le few by p = advance_makes app name history (seen a) p s sub count from changes is le few by (Ok u) q

    pub advance_refused : {E : Type 0} (from count : ℕ) (changes : List Change) (fault : EventFault) (result : Result Answer E) → Advances sub from count changes a.session s (Err fault) → IsRefusal fault result →
        AdvancesBy sub from count changes (seen a) (seen (record a { session = s })) result
    advance_refused from count changes fault (Ok o) q how =
        λ app name history is le few by p. refused_acts app name history (act.Advance sub count) (seen a) (with_session s (seen a)) (seen (record a { session = s })) fault (Ok o) how
        (advance_makes app name history (seen a) p s sub count from changes is le few by (Err fault) q) (ap (λ (x : ASession). seen (record a { session = x })) q.same) o refl
    advance_refused from count changes fault (Err e) q how = ap (λ (x : ASession). seen (record a { session = x })) q.same

    pub feed_done : (count : ℕ) (news : List Publish) (u : Unit {0}) → Feeds sub count news a.session s (Ok u) → (app : App) (name : List ℕ) (history : List Entry) → IsFeed (moments app a.session.carried.number history) sub count news a.session →
        length history < 18446744073709551616 → IsConnection app name history (seen a) → Acts app name history (act.Advance sub count) (seen a) (seen (record a { session = s })) answer.Done
    feed_done count news u q app name history f few p = feed_makes app name history (seen a) p s sub count news f few (Ok u) q

    pub feed_refused : {E : Type 0} (count : ℕ) (news : List Publish) (fault : EventFault) (result : Result Answer E) → Feeds sub count news a.session s (Err fault) → IsRefusal fault result → FeedsBy sub count news (seen a) (seen (record a { session = s })) result
    feed_refused count news fault (Ok o) q how =
        λ app name history f few p. refused_acts app name history (act.Advance sub count) (seen a) (with_session s (seen a)) (seen (record a { session = s })) fault (Ok o) how
        (feed_makes app name history (seen a) p s sub count news f few (Err fault) q) (ap (λ (x : ASession). seen (record a { session = x })) q.same) o refl
    feed_refused count news fault (Err e) q how = ap (λ (x : ASession). seen (record a { session = x })) q.same

-- over the entries of a history
pub advances_in : {E : Type 0} (app : App) (history : List Entry) (sub from count : ℕ) (changes : List Change) (old new : AConnection) (result : Result Answer E) → cursor_of sub old.session.carried.own.subs ≡ Some from → from + count ≤ length history →
    length history < 18446744073709551616 → changes ≡ changes_between (programs app) history from count → AdvancesBy sub from count changes old new result → AnswersIn app history (act.Advance sub count) old new result
advances_in app history sub from count changes old new (Ok o) is le few by l = λ name p. l app name history is le few by p
advances_in app history sub from count changes old new (Err e) is le few by l = l
