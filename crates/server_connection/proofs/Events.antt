-- What each event of a session leaves, and why it ends the loop.
use Rattle.std.specs.Prelude.{◌≡◌, ◌⊎◌, ℕ, ◌≤◌, ◌==◌, List, [], ◌∷◌, ◌++◌, length, Bool, true, false, Option, None, Some, Ok, Err, IfErr, OnErr, refl}
use Rattle.std.proofs.Common.{ap, ap₂, sym, subst, ◌∙◌, arith, inl, inr, length-append, ⊎_elim}
use Rattle.std.proofs.lemmas.Bool.{eqb-true, eq-eqb}
use Rattle.ejson_value.specs.declared.change.Change.{Change}
use Rattle.ejson_value.specs.declared.change.Publish.{Publish}
use Rattle.ejson_value.specs.declared.key.Key.{Key}
use Rattle.ejson_value.specs.Rows.{Rows}
use Rattle.value_model.specs.Val.{Entries}
use Rattle.merge_model.specs.Publishing.{Call}
use Rattle.ddp_messages.specs.ClientMessage.{ClientMessage}
use Rattle.ddp_messages.specs.ServerMessage.{ServerMessage}
use Rattle.program_steps.specs.declared.outcome.Status.{Status}
use Rattle.program_steps.specs.Runs.{End}
use Rattle.history_model.specs.declared.entry.Entry.{Entry}
use Rattle.session_model.specs.Items.{Item, id_of}
use Rattle.session_model.specs.Items as item
use Rattle.session_model.specs.Methods.{running, refused, finished, fire}
use Rattle.session_model.specs.State.{State, own_after}
use Rattle.session_model.specs.Subscriptions.{cursor_of}
use Rattle.session_model.specs.Taking.{Taken, at_once, to_queue}
use Rattle.session_model.specs.Fits.{item_for}
use Rattle.session_journal_laws.specs.BlockingLaws.{turned_length, fire_length}
use Rattle.session_journal_laws.specs.declared.stored.Stored.{Stored}
use Rattle.session_laws.specs.declared.fault.EventFault.TheVariants as fault
use Rattle.session_laws.specs.Session.{ASession, is_full, IsCause, can_handle, can_load, can_advance, can_learn, can_refuse}
use Rattle.session_laws.specs.Adding.{HasAdded}
use Rattle.session_laws.specs.Events.{Outcome, IsTakenAs, IsTakeCause, Takes, HasHandled, Handles, Loads, Advances, Feeds, IsLearnt, Learns, Refuses, Sends}
use Rattle.shared_session.specs.Held.{AHeld, Stands}
use Rattle.shared_session.specs.Events.{Keeps, TakesHeld, HandlesHeld, SendsHeld, LoadsHeld, AdvancesHeld, FeedsHeld, LearnsHeld, RefusesHeld, Meets}
use Rattle.server_connection.specs.Looks.{IsStill, Stays, Sees, StopsEvent, end_by}

-- ---- what stays

own_grows : (st : State) (i : Item) → length st.methods ≤ length (own_after st i).methods
own_grows st (item.call k message seed) = omega (arith, length-append st.methods (record { id = id_of message; phase = running } ∷ []))
own_grows st (item.refused k place) = omega (arith, turned_length k refused st.methods)
own_grows st (item.finished k place) = omega (arith, turned_length k (finished place) st.methods)
own_grows st i = omega arith

added_still : (stored : Stored) (id : Option (List ℕ)) (call : Call Key Entries) (i : Item) (words : List ServerMessage) (old new : ASession) → HasAdded stored id call (own_after old.carried.own i) words old new → IsStill old new
added_still stored id call i words old new a =
    let own = own_after old.carried.own i in
    let same : length new.carried.own.methods ≡ length (fire own.subs own.methods) = ap (λ (st : State). length st.methods) a.added.own in
    record { app = a.added.app; number = a.added.number; dropped = a.dropped; calls = omega (arith, same, fire_length own.subs own.methods, own_grows old.carried.own i) }

still_same : (old new : ASession) → new ≡ old → IsStill old new
still_same old new e = record {
  app = ap (λ (s : ASession). s.carried.app) e;
  number = ap (λ (s : ASession). s.carried.number) e;
  dropped = ap (λ (s : ASession). s.dropped) e;
  calls = let same : length new.carried.own.methods ≡ length old.carried.own.methods = ap (λ (s : ASession). length s.carried.own.methods) e in omega (arith, same);
}

taken_still : (x : Taken) (n : ℕ) (old new : ASession) → IsTakenAs x n old new → IsStill old new
taken_still (at_once i) n old new a = added_still _ _ _ i _ old new a.done
taken_still (to_queue message) n old new a = record {
  app = ap (λ (s : ASession). s.carried.app) a.1;
  number = ap (λ (s : ASession). s.carried.number) a.1;
  dropped = ap (λ (s : ASession). s.dropped) a.1;
  calls = let same : length new.carried.own.methods ≡ length old.carried.own.methods = ap (λ (s : ASession). length s.carried.own.methods) a.1 in omega (arith, same);
}

takes_still : (t : List ℕ) (old new : ASession) (r : Outcome) → Takes t old new r → IsStill old new
takes_still t old new (Ok u) a = taken_still _ _ old new a.done
takes_still t old new (Err e) a = still_same old new a.same

handled_still : (places : List ℕ) (ms : List ClientMessage) (old new : ASession) → HasHandled places ms old new → IsStill old new
handled_still [] ms old new a = absurd a
handled_still (p ∷ ps) [] old new a = absurd a
handled_still (p ∷ ps) (m ∷ ms) old new a = added_still _ _ _ (item_for old.carried.app old.carried.number old.carried.own m) _ old new a.done

handles_still : (old new : ASession) (r : Outcome) → Handles old new r → IsStill old new
handles_still old new (Ok u) a = handled_still old.places old.carried.waiting old new a.done
handles_still old new (Err e) a = still_same old new a.same

loads_still : (sub place : ℕ) (rows : Rows) (old new : ASession) (r : Outcome) → Loads sub place rows old new r → IsStill old new
loads_still sub place rows old new (Ok u) a = added_still _ _ _ (item.load sub place) _ old new a.done.done
loads_still sub place rows old new (Err e) a = still_same old new a.same

advances_still : (sub from count : ℕ) (changes : List Change) (old new : ASession) (r : Outcome) → Advances sub from count changes old new r → IsStill old new
advances_still sub from count changes old new (Ok u) a = added_still _ _ _ (item.advance sub count) _ old new a.done.done
advances_still sub from count changes old new (Err e) a = still_same old new a.same

feeds_still : (sub count : ℕ) (news : List Publish) (old new : ASession) (r : Outcome) → Feeds sub count news old new r → IsStill old new
feeds_still sub count news old new (Ok u) a = added_still _ _ _ (item.advance sub count) _ old new a.done.done
feeds_still sub count news old new (Err e) a = still_same old new a.same

learnt_still : (k : ℕ) (o : Option End) (old new : ASession) → IsLearnt k o old new → IsStill old new
learnt_still k (Some end) old new a = added_still _ _ _ (item.finished k end.at) _ old new a.added
learnt_still k None old new a = added_still _ _ _ (item.unblocked k) _ old new a.added

learns_still : (k : ℕ) (status : Status) (old new : ASession) (r : Outcome) → Learns k status old new r → IsStill old new
learns_still k status old new (Ok u) a = learnt_still k status.ended old new a.done
learns_still k status old new (Err e) a = still_same old new a.same

refuses_still : (k place : ℕ) (old new : ASession) (r : Outcome) → Refuses k place old new r → IsStill old new
refuses_still k place old new (Ok u) a = added_still _ _ _ (item.refused k place) _ old new a.done.added
refuses_still k place old new (Err e) a = still_same old new a.same

sends_still : (old new : ASession) (r : Option (List ℕ)) → Sends old new r → IsStill old new
sends_still old new None a = still_same old new a.same
sends_still old new (Some t) a = record {
  app = ap (λ (s : ASession). s.carried.app) a.0.rest;
  number = ap (λ (s : ASession). s.carried.number) a.0.rest;
  dropped = ap (λ (s : ASession). s.dropped) a.0.rest;
  calls = let same : length new.carried.own.methods ≡ length old.carried.own.methods = ap (λ (s : ASession). length s.carried.own.methods) a.0.rest in omega (arith, same);
}

-- ---- why it ends the loop

stops : (enabled : Bool) (r : Outcome) (old new : ASession) → IfErr r (IsCause enabled old) → OnErr r (new ≡ old) → IfErr (end_by r) (StopsEvent new)
stops enabled (Ok u) old new cause same = tt
stops enabled (Err fault.Idle) old new cause same = tt
stops enabled (Err fault.QueueFull) old new cause same = tt
stops enabled (Err fault.JournalFull) old new cause same = ap is_full same ∙ cause.1
stops enabled (Err fault.Memory) old new cause same = tt

take_stops : (t : List ℕ) (r : Outcome) (old new : ASession) → IfErr r (IsTakeCause t old) → OnErr r (new ≡ old) → IfErr (end_by r) (StopsEvent new)
take_stops t (Ok u) old new cause same = tt
take_stops t (Err fault.Idle) old new cause same = tt
take_stops t (Err fault.QueueFull) old new cause same = tt
take_stops t (Err fault.JournalFull) old new cause same = ap is_full same ∙ cause.1
take_stops t (Err fault.Memory) old new cause same = tt

-- ---- events that need no store

stood : (old new : AHeld) → Keeps old new → Stands old → Stands new
stood old new keeps s = record { taken = s.taken; sent = s.sent; for = keeps s.taken s.sent s.for }

pub stays_same : (old : AHeld) → Stays old old
stays_same old = record { still = still_same old.session old.session refl; list = refl; stands = λ s. s }

pub take_stays : (t : List ℕ) (old new : AHeld) (r : Outcome) → TakesHeld t old new r → Stays old new
take_stays t old new (Ok u) a = record { still = takes_still t old.session new.session (Ok u) a.takes; list = a.list; stands = λ s. record { taken = s.taken ++ t ∷ []; sent = s.sent; for = a.stands s.taken s.sent s.for } }
take_stays t old new (Err e) a =
    let same : new ≡ old = ap₂ (λ (s : ASession) (l : List Entry). let h : AHeld = record { session = s; list = l } in h) a.takes.same a.list in
    record { still = takes_still t old.session new.session (Err e) a.takes; list = a.list; stands = λ s. subst Stands (sym same) s }

pub handle_stays : (old new : AHeld) (r : Outcome) → HandlesHeld old new r → Stays old new
handle_stays old new r a = record { still = handles_still old.session new.session r a.handles; list = a.list; stands = stood old new a.keeps }

pub send_stays : (old new : AHeld) (r : Option (List ℕ)) → SendsHeld old new r → Stays old new
send_stays old new None a = record { still = sends_still old.session new.session None a.sends; list = a.list; stands = stood old new a.stands }
send_stays old new (Some t) a = record { still = sends_still old.session new.session (Some t) a.sends; list = a.list; stands = λ s. record { taken = s.taken; sent = s.sent ++ t ∷ []; for = a.stands s.taken s.sent s.for } }

still_then : (a b c : ASession) → IsStill a b → IsStill b c → IsStill a c
still_then a b c p q = record { app = q.app ∙ p.app; number = q.number ∙ p.number; dropped = q.dropped ∙ p.dropped; calls = omega (arith, p.calls, q.calls) }

pub stays_then : (a b c : AHeld) → Stays a b → Stays b c → Stays a c
stays_then a b c p q = record { still = still_then a.session b.session c.session p.still q.still; list = q.list ∙ p.list; stands = λ s. q.stands (p.stands s) }

pub take_ends : (t : List ℕ) (old new : AHeld) (r : Outcome) → TakesHeld t old new r → IfErr (end_by r) (StopsEvent new.session)
take_ends t old new r a = take_stops t r old.session new.session a.takes.cause a.takes.same

pub handle_ends : (old new : AHeld) (r : Outcome) → HandlesHeld old new r → IfErr (end_by r) (StopsEvent new.session)
handle_ends old new r a = stops (can_handle old.session) r old.session new.session a.handles.cause a.handles.same

-- ---- events with something of the store

module _ (known note : List Entry) (same : note ≡ known) (old new : AHeld) where
  sees : IsStill old.session new.session → Meets note old new → Keeps old new → Sees known old new
  sees still meets keeps = record { still = still; meets = subst (λ es. Meets es old new) same meets; keeps = keeps }

  pub load_sees : (sub place : ℕ) (rows : Rows) (r : Outcome) → LoadsHeld sub place rows note old new r → Sees known old new
  load_sees sub place rows r a = sees (loads_still sub place rows old.session new.session r a.loads) a.meets a.keeps

  pub learn_sees : (k : ℕ) (status : Status) (r : Outcome) → LearnsHeld k status note old new r → Sees known old new
  learn_sees k status r a = sees (learns_still k status old.session new.session r a.learns) a.meets a.keeps

  pub refuse_sees : (k place : ℕ) (r : Outcome) → RefusesHeld k place note old new r → Sees known old new
  refuse_sees k place r a = sees (refuses_still k place old.session new.session r a.refuses) a.meets a.keeps

pub load_ends : (sub place : ℕ) (rows : Rows) (note : List Entry) (old new : AHeld) (r : Outcome) → LoadsHeld sub place rows note old new r → IfErr (end_by r) (StopsEvent new.session)
load_ends sub place rows note old new r a = stops (can_load sub place old.session) r old.session new.session a.loads.cause a.loads.same

pub learn_ends : (k : ℕ) (status : Status) (note : List Entry) (old new : AHeld) (r : Outcome) → LearnsHeld k status note old new r → IfErr (end_by r) (StopsEvent new.session)
learn_ends k status note old new r a = stops (can_learn k status old.session) r old.session new.session a.learns.cause a.learns.same

pub refuse_ends : (k place : ℕ) (note : List Entry) (old new : AHeld) (r : Outcome) → RefusesHeld k place note old new r → IfErr (end_by r) (StopsEvent new.session)
refuse_ends k place note old new r a = stops (can_refuse k old.session) r old.session new.session a.refuses.cause a.refuses.same

-- ---- a batch that may begin elsewhere

is_there : (from : ℕ) (o : Option ℕ) → (o ≡ Some from) ⊎ (o ≡ Some from → ⊥)
is_there from None = inr (λ e. cc e)
is_there from (Some n) = elim (n == from) as (λ b. (n == from) ≡ b → (Some n ≡ Some from) ⊎ (Some n ≡ Some from → ⊥)) [
  | true ↦ λ is. inl (ap (λ (k : ℕ). Some k) (eqb-true n from is))
  | false ↦ λ is. inr (λ e. let same : n ≡ from = cc e in cc (is, eq-eqb n from same))
] refl

elsewhere_ends : (r : Outcome) (new : ASession) → r ≡ Err fault.Idle → IfErr (end_by r) (StopsEvent new)
elsewhere_ends r new is = subst (λ (x : Outcome). IfErr (end_by x) (StopsEvent new)) (sym is) tt

module _ (sub from count : ℕ) (changes : List Change) (note : List Entry) (old new : AHeld) (r : Outcome) (a : AdvancesHeld sub from count changes note old new r) where
  advance_both : IsStill old.session new.session × IfErr (end_by r) (StopsEvent new.session)
  advance_both =
      ⊎_elim
      (λ (is : cursor_of sub old.session.carried.own.subs ≡ Some from).
      let s = a.advances.0 is in (advances_still sub from count changes old.session new.session r s, stops (can_advance sub count old.session) r old.session new.session s.cause s.same))
      (λ (not : cursor_of sub old.session.carried.own.subs ≡ Some from → ⊥). let s = a.advances.1 not in (still_same old.session new.session s.same, elsewhere_ends r new.session s.idle))
      (is_there from (cursor_of sub old.session.carried.own.subs))

  pub advance_sees : (known : List Entry) → note ≡ known → Sees known old new
  advance_sees known same = record { still = advance_both.0; meets = subst (λ es. Meets es old new) same a.meets; keeps = a.keeps }

  pub advance_ends : IfErr (end_by r) (StopsEvent new.session)
  advance_ends = advance_both.1

-- ---- what was lent

-- the session learns of more of the history, and nothing comes of it
pub meets_sees : (known : List Entry) (old new : AHeld) → Meets known old new → new.session ≡ old.session → Keeps old new → Sees known old new
meets_sees known old new meets same keeps = record { still = still_same old.session new.session same; meets = meets; keeps = keeps }

module _ (sub from count : ℕ) (news : List Publish) (known : List Entry) (old new : AHeld) (r : Outcome) (a : FeedsHeld sub from count news known old new r) where
  feed_both : IsStill old.session new.session × IfErr (end_by r) (StopsEvent new.session)
  feed_both =
      ⊎_elim
      (λ (is : cursor_of sub old.session.carried.own.subs ≡ Some from).
      let s = a.feeds.0 is in (feeds_still sub count news old.session new.session r s, stops (can_advance sub count old.session) r old.session new.session s.cause s.same))
      (λ (not : cursor_of sub old.session.carried.own.subs ≡ Some from → ⊥). let s = a.feeds.1 not in (still_same old.session new.session s.same, elsewhere_ends r new.session s.idle))
      (is_there from (cursor_of sub old.session.carried.own.subs))

  pub feed_sees : Sees known old new
  feed_sees = record { still = feed_both.0; meets = a.meets; keeps = a.keeps }

  pub feed_ends : IfErr (end_by r) (StopsEvent new.session)
  feed_ends = feed_both.1
