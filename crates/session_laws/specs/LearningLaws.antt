-- Laws: What is learnt of a call, a text that is sent, and the end of a session keep what the session stands for.
use Rattle.std.specs.Prelude.{◌≡◌, ℕ, List, [], ◌∷◌, ◌++◌, map, Bool, true, false, ◌&&◌, ◌||◌, Option, Some, None, IfSome, is_some, option_and_then, refl}
use Rattle.std.proofs.Common.{ap, sym, subst, ◌∙◌}
use Rattle.merge_model.specs.Publishing.{apply}
use Rattle.ddp_messages.specs.ServerMessage.{ServerMessage}
use Rattle.program_steps.specs.declared.outcome.Status.{Status}
use Rattle.program_steps.specs.Runs.{End}
use Rattle.live_observer.specs.Observing.{AnObserver}
use Rattle.session_model.specs.Items.{Item}
use Rattle.session_model.specs.Items as item
use Rattle.session_model.specs.Subscriptions.{Live}
use Rattle.session_model.specs.Methods.{Phase, running, refused, finished, told, phase_at, id_at, is_blocked_by}
use Rattle.session_model.specs.State.{State, own_after, after, state_of}
use Rattle.session_model.specs.Moments.{Moment, run_at, end_at}
use Rattle.session_model.specs.Shown.{shown_in, subject}
use Rattle.session_model.specs.Out.{own_messages, result_by, results_by}
use Rattle.session_model.specs.Fits.{CanFollow}
use Rattle.session_journal_laws.specs.Resolved.{resolved}
use Rattle.session_journal_laws.specs.Stands.{items_of}
use Rattle.session_journal_laws.specs.RelationKeeping.{sent_stands}
use Rattle.session_journal_laws.specs.RelationEvents.{shows_idle}
use Rattle.session_laws.specs.Session.{ASession, is_running, can_learn, dropped}
use Rattle.session_laws.specs.Adding.{HasAdded}
use Rattle.session_laws.specs.Storing.{kept_as}
use Rattle.session_laws.specs.Meaning.{AreWatched, Means}
use Rattle.session_laws.specs.Events.{HasLearnt, HasRefused, IsLearnt, Keeps, KeepsLearning, KeepsRefusing}
use Rattle.session_laws.specs.Added.{added_keeps}
use Rattle.session_laws.specs.Learning.{IsQuiet}

-- ---- an item of no text that leaves the subscriptions

finished_quiet : (k place : ℕ) → IsQuiet (item.finished k place)
finished_quiet k place = record { textless = record { placed = λ n. tt; later = refl; handles = refl; prints = refl }; subject = refl; subs = λ st. refl }

unblocked_quiet : (k : ℕ) → IsQuiet (item.unblocked k)
unblocked_quiet k = record { textless = record { placed = λ n. tt; later = refl; handles = refl; prints = refl }; subject = refl; subs = λ st. refl }

refused_quiet : (k place : ℕ) → IsQuiet (item.refused k place)
refused_quiet k place = record { textless = record { placed = λ n. tt; later = refl; handles = refl; prints = refl }; subject = refl; subs = λ st. refl }

module _ (taken : List (List ℕ)) (C : List Moment) (sent : List (List ℕ)) (i : Item) (words : List ServerMessage) (old new : ASession) where
  quiet_keeps : IsQuiet i → Means taken C sent old → HasLearnt i words old new → resolved old.carried.app old.carried.number taken (kept_as 0 i) ≡ i →
      CanFollow old.carried.app old.carried.number C old.carried.own i → words ≡ own_messages C old.carried.number old.carried.own i → Means taken C sent new
  quiet_keeps q m a reads can says =
      let own = old.carried.own in
      let st = state_of (items_of taken old.carried) in
      let subs : new.carried.own.subs ≡ own.subs = ap (λ (s : State). s.subs) a.added.added.own ∙ q.subs own in
      let same : shown_in C st.subs 0 ≡ shown_in C (after st i).subs 0 = ap (λ (ls : List Live). shown_in C ls 0) (sym (q.subs st)) in
      added_keeps taken C sent i (apply 0 []) words old new q.textless m
      (subst (λ (id : Option (List ℕ)). HasAdded (kept_as 0 i) id (apply 0 []) (own_after own i) words old new) (sym q.textless.prints) a.added)
      a.waits reads can says
      (shows_idle C m.order (items_of taken old.carried) i q.subject same)
      (subst (λ (os : List (Option AnObserver)). AreWatched C new.carried.own.subs os) (sym a.observers)
      (subst (λ (ls : List Live). AreWatched C ls old.observers) (sym subs) m.watched))

-- ---- the run of a call

runs_is : (o : Option Phase) → is_running o ≡ true → o ≡ Some running
runs_is None e = cc e
runs_is (Some running) e = refl
runs_is (Some refused) e = cc e
runs_is (Some (finished place)) e = cc e
runs_is (Some (told place)) e = cc e

both_true : (a b : Bool) → (a && b) ≡ true → (a ≡ true) × (b ≡ true)
both_true true true e = (refl, refl)
both_true true false e = cc e
both_true false b e = cc e

module _ (k : ℕ) (status : Status) (old new : ASession) (can : can_learn k status old ≡ true) where
  runs : phase_at k old.carried.own.methods ≡ Some running
  runs = runs_is _ (both_true _ _ (both_true _ _ can).1).0

  blocks_by : status.ended ≡ None → (status.unblocked ≡ true) × (is_blocked_by k old.carried.own.blocking ≡ true)
  blocks_by e = both_true _ _
      (sym (ap (λ (o : Option End). is_some o || (status.unblocked && is_blocked_by k old.carried.own.blocking)) e) ∙ (both_true _ _ (both_true _ _ can).1).1)

  learnt_by : (o : Option End) → status.ended ≡ o → IsLearnt k o old new → KeepsLearning k status old new
  learnt_by (Some end) e a taken C sent m s =
      let there : run_at C end.at k ≡ Some status = subst (λ (o : Option End). IfSome o (λ x. run_at C x.at k ≡ Some status)) e s.end in
      let is : end_at C end.at k ≡ Some end = ap (option_and_then (λ (x : Status). x.ended)) there ∙ e in
      quiet_keeps taken C sent (item.finished k end.at) (map (result_by end.outcome) (id_at k old.carried.own.methods)) old new
      (finished_quiet k end.at) m a refl (runs, record { end = end; is = is; there = refl })
      (sym (ap (λ (x : Option End). results_by x (id_at k old.carried.own.methods)) is))
  learnt_by None e a taken C sent m s =
      let b = blocks_by e in
      quiet_keeps taken C sent (item.unblocked k) [] old new (unblocked_quiet k) m a refl
      (b.1, record { place = s.place; status = status; is = s.is; unblocked = b.0; ended = e }) refl

  pub learnt_keeps : IsLearnt k status.ended old new → KeepsLearning k status old new
  learnt_keeps a = learnt_by status.ended refl a

pub refused_keeps : (k place : ℕ) (old new : ASession) → HasRefused k place old new → KeepsRefusing k place old new
refused_keeps k place old new a taken C sent m full =
    quiet_keeps taken C sent (item.refused k place) (own_messages [] old.carried.number old.carried.own (item.refused k place)) old new
    (refused_quiet k place) m a refl full refl

-- ---- the rest

pub sent_keeps : (t : List ℕ) (rest : List (List ℕ)) (old : ASession) → old.carried.outbox ≡ t ∷ rest →
    (taken : List (List ℕ)) (C : List Moment) (sent : List (List ℕ)) → Means taken C sent old →
    Means taken C (sent ++ t ∷ []) (record old { carried = record old.carried { outbox = rest } })
sent_keeps t rest old e taken C sent m = record {
  order = m.order;
  stands = sent_stands taken C sent rest old.carried t m.stands e;
  ids = m.ids;
  from = m.from;
  connected = m.connected;
  watched = m.watched;
}

pub dropped_keeps : (old : ASession) → Keeps old (dropped old)
dropped_keeps old taken C sent m = record { order = m.order; stands = m.stands; ids = m.ids; from = m.from; connected = m.connected; watched = m.watched }
