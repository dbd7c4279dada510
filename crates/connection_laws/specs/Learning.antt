-- What a session learns of a call.
use Rattle.std.specs.Prelude.{◌≡◌, ℕ, ◌≤◌, List, [], length, map, Bool, true, false, cond, ◌&&◌, ◌||◌, nat_le, Option, None, Some, IfSome, is_some}
use Rattle.std.specs.Prelude.{option_map, Ok, Err, refl}
use Rattle.std.proofs.Common.{ap, ap₂, sym, subst, ◌∙◌}
use Rattle.std.proofs.lemmas.Bool.{and_parts, le-leb, eqb-true, eq-eqb}
use Rattle.merge_model.specs.Publishing.{apply}
use Rattle.ddp_messages.specs.ServerMessage.{ServerMessage}
use Rattle.program_steps.specs.declared.outcome.Status.{Status}
use Rattle.program_steps.specs.Runs.{End}
use Rattle.app_model.specs.App.{App}
use Rattle.world_invariant_laws.specs.history_model.declared.entry.Entry.{Entry}
use Rattle.world_invariant_laws.specs.history_model.History.{status_at}
use Rattle.world_invariant_laws.specs.session_model.Items.{Item}
use Rattle.world_invariant_laws.specs.session_model.Items as item
use Rattle.world_invariant_laws.specs.session_model.Methods.{Phase, running, Blocking, is_blocked_by, phase_at, id_at}
use Rattle.world_invariant_laws.specs.session_model.State.{State, own_after}
use Rattle.world_invariant_laws.specs.session_model.Moments.{Moment, moment_at, run_at}
use Rattle.world_invariant_laws.specs.session_model.Out.{own_messages, result_by}
use Rattle.world_invariant_laws.specs.session_model.Fits.{IsRefusedAt}
use Rattle.session_laws.specs.session_journal_laws.Resolved.{resolved}
use Rattle.session_laws.specs.Session.{ASession, is_at_work, is_running as runs, has_news, can_learn, can_refuse}
use Rattle.session_laws.specs.Storing.{kept_as}
use Rattle.session_laws.specs.Meaning.{Means}
use Rattle.session_laws.specs.Events.{Outcome, HasLearnt, IsLearnt, IsStatus, Learns, Refuses}
use Rattle.world_invariant_laws.specs.world_model.declared.events.Act.TheVariants as act
use Rattle.world_invariant_laws.specs.world_model.declared.events.Answer.TheVariants as answer
use Rattle.world_invariant_laws.specs.world_model.Store.{programs, moments}
use Rattle.world_invariant_laws.specs.world_model.Conn.{Refusal, state_in, is_at_work as is_at_work_of}
use Rattle.world_invariant_laws.specs.world_model.Acts.{with_item, is_kept, is_running, news_of, news_by, learnt, learns_item, enabled, outcome}
use Rattle.world_invariant_laws.specs.PlacesLaws.{ended_there}
use Rattle.world_invariant_laws.specs.Moments.{run_there}
use Rattle.world_invariant_laws.specs.Session.{IsRefusal, IsServed}
use Rattle.world_invariant_laws.specs.Begun.{runs_of}
use Rattle.connection_laws.specs.Connection.{AConnection, waiting_of, as_conn, IsConnection}
use Rattle.connection_laws.specs.Acting.{with_session, refusal_learnt, Makes}
use Rattle.connection_laws.specs.Standing.{IsMade}
use Rattle.connection_laws.specs.StandingLaws.{state_is, at_work_is, idle_of, made}
use Rattle.connection_laws.specs.OneMore.{HasOne, has_one, one_more, one_stays}

right_false : (b : Bool) → (b && false) ≡ false
right_false true = refl
right_false false = refl

either_none : {A : Type 0} (b : Bool) → cond b (let none : Option A = None in none) None ≡ None
either_none true = refl
either_none false = refl

-- ---- an item of no text

module _ (app : App) (name : List ℕ) (history : List Entry) (old : AConnection) (p : IsConnection app name history old) (s : ASession) (i : Item)
    (words : List ServerMessage) (reads : resolved old.session.carried.app old.session.carried.number old.received (kept_as 0 i) ≡ i)
    (l : HasLearnt i words old.session s) (m : Means old.received (moments app old.session.carried.number history) old.sent s) where
  learnt_one : HasOne app history old.received 0 i old s
  learnt_one = has_one app history old.received 0 i old s None (apply 0 []) (own_after old.session.carried.own i) words l.added refl reads m

  learnt_does : (kept : Option Refusal) → as_conn (record old { session = s; kept = kept }) ≡ with_item app history (record (as_conn old) { kept = kept }) i
  learnt_does kept = one_more app name history old.received 0 i old s p learnt_one old.upward (as_conn old).queue kept
      (ap₂ waiting_of l.waits.waiting l.waits.bytes)

  learnt_stays : (kept : Option Refusal) → IsConnection app name history (record old { session = s; kept = kept })
  learnt_stays kept = one_stays app name history old.received 0 i old s p learnt_one old.upward kept
      (ap length l.waits.bytes ∙ (p.bytes ∙ ap length (sym l.waits.waiting)))

-- ---- no refusal of the call is kept

same_running : (o : Option Phase) → is_running o ≡ runs o
same_running None = refl
same_running (Some running) = refl
same_running (Some p) = refl

ended_news : (st : State) (k : ℕ) (unblocked : Bool) (o : Option End) →
    is_some (news_of st k unblocked o) ≡ (is_some o || (unblocked && is_blocked_by k st.blocking))
ended_news st k unblocked (Some end) = refl
ended_news st k unblocked None =
    elim (unblocked && is_blocked_by k st.blocking) as (λ b. is_some (cond b (Some (item.unblocked k)) None) ≡ b) [ true ↦ refl | false ↦ refl ]

some_news : (st : State) (k : ℕ) (status : Status) →
    is_some (news_by st k (Some status)) ≡ (runs (phase_at k st.methods) && has_news status (is_blocked_by k st.blocking))
some_news st k status =
    ap (λ b. is_some (cond b (news_of st k status.unblocked status.ended) None)) (same_running (phase_at k st.methods))
    ∙ elim (runs (phase_at k st.methods)) as
    (λ b. is_some (cond b (news_of st k status.unblocked status.ended) None) ≡ (b && has_news status (is_blocked_by k st.blocking))) [
      | true ↦ ended_news st k status.unblocked status.ended
      | false ↦ refl
    ]

module _ (app : App) (name : List ℕ) (history : List Entry) (old : AConnection) (p : IsConnection app name history old) (k place : ℕ)
    (other : is_kept k old.kept ≡ false) where
  -- what there is to learn where no refusal of the call is kept
  by_status : learnt app history (as_conn old) k place ≡ cond (nat_le place (length history))
      (news_by (state_in (as_conn old)) k (status_at (programs app) history place old.session.carried.number k)) None
  by_status =
      ap (λ b. cond b (option_map (λ (r : Refusal). item.refused k r.at) old.kept)
      (cond (nat_le place (length history))
      (news_by (state_in (as_conn old)) k (status_at (programs app) history place old.session.carried.number k)) None)) other

  nothing_learnt : learnt app history (as_conn old) k place ≡ None → outcome app history (as_conn old) (act.Learn k place) ≡ answer.Idle
  nothing_learnt e = idle_of app history (as_conn old) (act.Learn k place)
      (ap (λ (o : Option Item). is_at_work_of (as_conn old) && is_some o) e ∙ right_false (is_at_work_of (as_conn old)))

  -- none at a place behind the history's end, nor of a run that was not begun
  pub learn_past : nat_le place (length history) ≡ false → outcome app history (as_conn old) (act.Learn k place) ≡ answer.Idle
  learn_past past = nothing_learnt
      (by_status ∙ ap (λ b. cond b (news_by (state_in (as_conn old)) k (status_at (programs app) history place old.session.carried.number k)) None) past)

  pub learn_unbegun : status_at (programs app) history place old.session.carried.number k ≡ None →
      outcome app history (as_conn old) (act.Learn k place) ≡ answer.Idle
  learn_unbegun none = nothing_learnt
      (by_status ∙ (ap (λ (o : Option Status). cond (nat_le place (length history)) (news_by (state_in (as_conn old)) k o) None) none
      ∙ either_none (nat_le place (length history))))

  module _ (status : Status) (le : place ≤ length history) (is : status_at (programs app) history place old.session.carried.number k ≡ Some status)
      (s : ASession) where
    there_is : learnt app history (as_conn old) k place ≡ news_by old.session.carried.own k (Some status)
    there_is =
        by_status
        ∙ (ap₂ (λ (b : Bool) (o : Option Status). cond b (news_by (state_in (as_conn old)) k o) None) (le-leb place (length history) le) is
        ∙ ap (λ (st : State). news_by st k (Some status)) (state_is app name history old p))

    learn_enabled : enabled app history (as_conn old) (act.Learn k place) ≡ can_learn k status old.session
    learn_enabled = ap₂ (λ (w b : Bool). w && b) (at_work_is app name history old p) (ap is_some there_is ∙ some_news old.session.carried.own k status)

    -- the status is that of a moment, and its end's
    status_known : IsStatus (moments app old.session.carried.number history) k status
    status_known = record { place = place; is = run_there app old.session.carried.number history place k le ∙ is; end = ended status.ended refl }
      where
        ended : (o : Option End) → status.ended ≡ o → IfSome o (λ end. run_at (moments app old.session.carried.number history) end.at k ≡ Some status)
        ended None e = tt
        ended (Some end) e =
            let there = ended_there (programs app) history place old.session.carried.number k status end is e in
            run_there app old.session.carried.number history end.at k there.0 ∙ there.1

    learns_made : (i : Item) (words : List ServerMessage) → resolved old.session.carried.app old.session.carried.number old.received (kept_as 0 i) ≡ i →
        HasLearnt i words old.session s →
        Means old.received (moments app old.session.carried.number history) old.sent s → learnt app history (as_conn old) k place ≡ Some i →
        IsMade app name history (act.Learn k place) old (with_session s old)
    learns_made i words reads l m e = record {
      does =
          learnt_does app name history old p s i words reads l m old.kept
          ∙ ap₂ (λ (b : Bool) (o : Option Item). learns_item app history (record (as_conn old) { kept = cond b None old.kept }) o) (sym other) (sym e);
      stays = learnt_stays app name history old p s i words reads l m old.kept;
    }

    learnt_made : runs (phase_at k old.session.carried.own.methods) ≡ true → has_news status (is_blocked_by k old.session.carried.own.blocking) ≡ true →
        (o : Option End) → status.ended ≡ o → IsLearnt k o old.session s →
        Means old.received (moments app old.session.carried.number history) old.sent s → IsMade app name history (act.Learn k place) old (with_session s old)
    learnt_made run news (Some end) ends l m =
        learns_made (item.finished k end.at) (map (result_by end.outcome) (id_at k old.session.carried.own.methods)) refl l m
        (there_is ∙ (ap (λ b. cond b (news_of old.session.carried.own k status.unblocked status.ended) None)
        (same_running (phase_at k old.session.carried.own.methods) ∙ run) ∙ ap (news_of old.session.carried.own k status.unblocked) ends))
    learnt_made run news None ends l m =
        let blocks : (status.unblocked && is_blocked_by k old.session.carried.own.blocking) ≡ true =
        sym (ap (λ (o : Option End). is_some o || (status.unblocked && is_blocked_by k old.session.carried.own.blocking)) ends) ∙ news in
        learns_made (item.unblocked k) [] refl l m
        (there_is ∙ (ap (λ b. cond b (news_of old.session.carried.own k status.unblocked status.ended) None)
        (same_running (phase_at k old.session.carried.own.methods) ∙ run)
        ∙ (ap (news_of old.session.carried.own k status.unblocked) ends ∙ ap (λ b. cond b (Some (item.unblocked k)) None) blocks)))

    pub learn_makes : (result : Outcome) → Learns k status old.session s result → Makes app name history (act.Learn k place) old (with_session s old) result
    learn_makes (Ok u) r =
        let C = moments app old.session.carried.number history in
        let parts = and_parts (is_at_work old.session) (runs (phase_at k old.session.carried.own.methods)
        && has_news status (is_blocked_by k old.session.carried.own.blocking)) r.enabled.enabled in
        let both = and_parts (runs (phase_at k old.session.carried.own.methods)) (has_news status (is_blocked_by k old.session.carried.own.blocking)) parts.1 in
        made app name history (act.Learn k place) old (with_session s old) p (can_learn k status old.session) learn_enabled refl refl (Ok u) r.enabled tt
        (learnt_made both.0 both.1 status.ended refl r.done (r.keeps old.received C old.sent p.means status_known))
    learn_makes (Err e) r = made app name history (act.Learn k place) old (with_session s old) p
        (can_learn k status old.session) learn_enabled refl refl (Err e) tt r.cause tt

-- ---- a refusal of the call is kept

blocks_by : (o : Option Moment) (j k : ℕ) (b : Option Blocking) → IsRefusedAt o j b → k ≡ j → is_blocked_by k b ≡ true
blocks_by None j k b r e = absurd r
blocks_by (Some m) j k None r e = absurd r
blocks_by (Some m) j k (Some b) r e = eq-eqb k b.k (e ∙ sym r.number)

module _ (app : App) (name : List ℕ) (history : List Entry) (old : AConnection) (p : IsConnection app name history old) (k place : ℕ) (r : Refusal)
    (is : old.kept ≡ Some r) (its : is_kept k (Some r) ≡ true)
    (known : IsServed app history (as_conn old)) (s : ASession) where
  refused_is : learnt app history (as_conn old) k place ≡ Some (item.refused k r.at)
  refused_is =
      ap (λ (o : Option Refusal). cond (is_kept k o) (option_map (λ (x : Refusal). item.refused k x.at) o)
      (cond (nat_le place (length history)) (news_by (state_in (as_conn old)) k (status_at (programs app) history place old.session.carried.number k)) None)) is
      ∙ ap (λ b. cond b (Some (item.refused k r.at)) (cond (nat_le place (length history))
      (news_by (state_in (as_conn old)) k (status_at (programs app) history place old.session.carried.number k)) None)) its

  refused_at : IsRefusedAt (moment_at (moments app old.session.carried.number history) r.at) k old.session.carried.own.blocking
  refused_at =
      let C = moments app old.session.carried.number history in
      let kept : IsRefusal C (runs_of app old.session.carried.number history) (Some r) (state_in (as_conn old)).blocking =
      subst (λ (o : Option Refusal). IsRefusal C (runs_of app old.session.carried.number history) o (state_in (as_conn old)).blocking) is known.refusal in
      subst (λ (n : ℕ). IsRefusedAt (moment_at C r.at) n old.session.carried.own.blocking) (sym (eqb-true k r.k its))
      (subst (λ (st : State). IsRefusedAt (moment_at C r.at) r.k st.blocking) (state_is app name history old p) kept.0)

  refuse_enabled : enabled app history (as_conn old) (act.Learn k place) ≡ can_refuse k old.session
  refuse_enabled =
      ap₂ (λ (w b : Bool). w && b) (at_work_is app name history old p)
      (ap is_some refused_is
      ∙ sym (blocks_by (moment_at (moments app old.session.carried.number history) r.at) k k old.session.carried.own.blocking refused_at refl))

  pub refuse_makes : (result : Outcome) → Refuses k r.at old.session s result → Makes app name history (act.Learn k place) old (refusal_learnt s old) result
  refuse_makes (Ok u) q =
      let i = item.refused k r.at in
      let words = own_messages [] old.session.carried.number old.session.carried.own i in
      let m : Means old.received (moments app old.session.carried.number history) old.sent s =
      q.keeps old.received (moments app old.session.carried.number history) old.sent p.means refused_at in
      made app name history (act.Learn k place) old (refusal_learnt s old) p (can_refuse k old.session) refuse_enabled refl refl (Ok u) q.enabled tt (record {
        does =
            learnt_does app name history old p s i words refl q.done m None
            ∙ ap₂ (λ (b : Bool) (o : Option Item). learns_item app history (record (as_conn old) { kept = cond b None old.kept }) o)
            (sym (ap (is_kept k) is ∙ its)) (sym refused_is);
        stays = learnt_stays app name history old p s i words refl q.done m None;
      })
  refuse_makes (Err e) q = made app name history (act.Learn k place) old (refusal_learnt s old) p (can_refuse k old.session) refuse_enabled refl refl
      (Err e) tt q.cause tt
