-- Each event from what was tested before it and what it did.
use Rattle.std.specs.Prelude.{◌≡◌, ℕ, List, length, nat_lt, not, ◌==◌, ◌&&◌, is_none, Bool, true, false, cond, Option, Some, None, IfSome, OnOk, OnErr, IfErr, IsErrAnd, Ok, Err, refl}
use Rattle.std.proofs.Common.{sym, subst}
use Rattle.ejson_value.specs.declared.change.Change.{Change}
use Rattle.ejson_value.specs.declared.change.Publish.{Publish}
use Rattle.ejson_value.specs.Rows.{Rows}
use Rattle.program_steps.specs.declared.outcome.Status.{Status}
use Rattle.ddp_messages.specs.ClientMessage.{ClientMessage}
use Rattle.session_core.specs.session_model.Methods.{Blocking}
use Rattle.session_core.specs.session_model.Taking.{Taken, at_once, to_queue, taken_text}
use Rattle.session_core.specs.session_laws.declared.fault.EventFault.{EventFault}
use Rattle.session_core.specs.session_laws.declared.fault.EventFault.TheVariants as fault
use Rattle.session_core.specs.session_laws.Session.{ASession, max_outbox, is_full, is_at_work, can_handle, can_load, can_advance, can_learn, can_refuse, IsCause, HadRoom, tested, dropped}
use Rattle.session_core.specs.session_laws.Events.{Outcome, IsTakenAs, IsCrowdedOut, IsPutCause, IsTakeCause, KeepsTaking, Takes, HasHandled, Handles, HasLoaded, Loads, HasAdvanced, Advances, HasFed, Feeds, observer_of, IsLearnt, Learns, HasRefused, Refuses, Closes}
use Rattle.session_core.specs.session_laws.Keeping.{answered_keeps, queued_keeps}
use Rattle.session_core.specs.session_laws_for_proofs.LearningLaws.{learnt_keeps, refused_keeps, dropped_keeps}
use Rattle.session_core.specs.session_laws_for_proofs.Handled.{handled_keeps}
use Rattle.session_core.specs.session_laws.Showing.{StandsAnywhere, loaded_keeps, advanced_keeps, fed_keeps}

-- ---- what the tests answer

-- the journal has room, or the event is refused for the first cause
abbrev pub IfRefused : Bool → ASession → Outcome → Type 0
IfRefused test s (Ok done) = HadRoom test s
IfRefused test s (Err e) = IsCause test s e

tested_by : (test : Bool) (s : ASession) (outcome : Outcome) (c f : Bool) → test ≡ c → is_full s ≡ f → cond c (cond f (Err fault.JournalFull) (Ok tt)) (Err fault.Idle) ≡ outcome → IfRefused test s outcome
tested_by test s outcome true false p q e = subst (IfRefused test s) e (record { enabled = p; room = q })
tested_by test s outcome true true p q e = subst (IfRefused test s) e (p, q)
tested_by test s outcome false f p q e = subst (IfRefused test s) e p

pub tested_is : (test : Bool) (s : ASession) (outcome : Outcome) → outcome ≡ tested test s → IfRefused test s outcome
tested_is test s outcome e = tested_by test s outcome test (is_full s) refl refl (sym e)

-- an answer that is an error is that of the step that gave it
pub on_error : {Q : EventFault → Type 0} (P : Outcome → Type 0) (r : Outcome) → IsErrAnd r Q → ((e : EventFault) → Q e → P (Err e)) → P r
on_error P (Ok done) h k = absurd h
on_error P (Err e) h k = k e h

pub memory_cause : (test : Bool) (s : ASession) (e : EventFault) → e ≡ fault.Memory → IsCause test s e
memory_cause test s e is = subst (IsCause test s) (sym is) tt

-- ---- each event

both_true : (a b : Bool) → (a && b) ≡ true → (a ≡ true) × (b ≡ true)
both_true true true e = (refl, refl)
both_true true false e = cc e
both_true false b e = cc e

not_failed : (s : ASession) → is_at_work s ≡ true → s.carried.own.failed ≡ false
not_failed s work = by s.dropped s.carried.own.failed refl (nat_lt (length s.carried.outbox) max_outbox) work
  where
    by : (d f : Bool) → s.carried.own.failed ≡ f → (room : Bool) → (not d && (not f && room)) ≡ true → s.carried.own.failed ≡ false
    by true f e room h = cc h
    by false true e room h = cc h
    by false false e room h = e

taken_keeps : (t : List ℕ) (old new : ASession) → old.carried.own.failed ≡ false → (taken : Taken) → taken_text old.carried.own.connected t ≡ taken → IsTakenAs taken (length t) old new → KeepsTaking t old new
taken_keeps t old new failed (at_once i) is a = answered_keeps t i old new failed is a
taken_keeps t old new failed (to_queue message) is a = subst (KeepsTaking t old) (sym a.1) (queued_keeps t message (length t) old is)

pub takes : (t : List ℕ) (old new : ASession) → HadRoom (is_at_work old) old → IsTakenAs (taken_text old.carried.own.connected t) (length t) old new → Takes t old new (Ok tt)
takes t old new room a = record { enabled = room; done = a; keeps = taken_keeps t old new (not_failed old room.enabled) (taken_text old.carried.own.connected t) refl a; cause = tt; same = tt }

take_cause : (t : List ℕ) (s : ASession) (e : EventFault) → IsCause (is_at_work s) s e → IsTakeCause t s e
take_cause t s fault.QueueFull c = absurd c
take_cause t s fault.Idle c = c
take_cause t s fault.JournalFull c = c
take_cause t s fault.Memory c = c

pub takes_none : (t : List ℕ) (old new : ASession) (e : EventFault) → IsTakeCause t old e → new ≡ old → Takes t old new (Err e)
takes_none t old new e cause same = record { enabled = tt; done = tt; keeps = tt; cause = cause; same = same }

pub takes_refused : (t : List ℕ) (old : ASession) (e : EventFault) → IsCause (is_at_work old) old e → Takes t old old (Err e)
takes_refused t old e cause = takes_none t old old e (take_cause t old e cause) refl

pub takes_so : (t : List ℕ) (old new : ASession) (r : Outcome) → HadRoom (is_at_work old) old → OnOk r (IsTakenAs (taken_text old.carried.own.connected t) (length t) old new) → IfErr r (IsTakeCause t old) → OnErr r (new ≡ old) → Takes t old new r
takes_so t old new (Ok done) room did cause same = takes t old new room did
takes_so t old new (Err e) room did cause same = takes_none t old new e cause same

-- why a message can't wait is why its text isn't taken
put_cause : (t : List ℕ) (s : ASession) (message : ClientMessage) (e : EventFault) → HadRoom (is_at_work s) s → taken_text s.carried.own.connected t ≡ to_queue message → IsPutCause (length t) s e → IsTakeCause t s e
put_cause t s message fault.Idle room is c = absurd c
put_cause t s message fault.JournalFull room is c = absurd c
put_cause t s message fault.QueueFull room is c = record { enabled = room.enabled; room = room.room; crowded = subst (λ (x : Taken). IsCrowdedOut x (length t) s) (sym is) c }
put_cause t s message fault.Memory room is c = tt

pub put_causes : (t : List ℕ) (s : ASession) (message : ClientMessage) (n : ℕ) (r : Outcome) → HadRoom (is_at_work s) s → taken_text s.carried.own.connected t ≡ to_queue message → n ≡ length t → IfErr r (IsPutCause n s) → IfErr r (IsTakeCause t s)
put_causes t s message n (Ok done) room is e c = tt
put_causes t s message n (Err x) room is e c = put_cause t s message x room is (subst (λ (k : ℕ). IsPutCause k s x) e c)

pub handles : (old new : ASession) → HadRoom (can_handle old) old → HasHandled old.places old.carried.waiting old new → Handles old new (Ok tt)
handles old new room a = record { enabled = room; done = a; keeps = handled_keeps old new (free old room.enabled) a; cause = tt; same = tt }
  where
    none_by : (o : Option Blocking) → is_none o ≡ true → o ≡ None
    none_by None e = refl
    none_by (Some b) e = cc e

    free : (s : ASession) → can_handle s ≡ true → s.carried.own.blocking ≡ None
    free s can = none_by s.carried.own.blocking (both_true (not (length s.carried.waiting == 0)) (is_none s.carried.own.blocking) (both_true (is_at_work s) (not (length s.carried.waiting == 0) && is_none s.carried.own.blocking) can).1).1

pub handles_none : (old new : ASession) (e : EventFault) → IsCause (can_handle old) old e → new ≡ old → Handles old new (Err e)
handles_none old new e cause same = record { enabled = tt; done = tt; keeps = tt; cause = cause; same = same }

pub loads : (sub place : ℕ) (rows : Rows) (old new : ASession) → HadRoom (can_load sub place old) old → HasLoaded sub place rows old new → Loads sub place rows old new (Ok tt)
loads sub place rows old new room a = record { enabled = room; done = a; keeps = loaded_keeps sub place rows old new room.enabled a; cause = tt; same = tt }

pub loads_none : (sub place : ℕ) (rows : Rows) (old new : ASession) (e : EventFault) → IsCause (can_load sub place old) old e → new ≡ old → Loads sub place rows old new (Err e)
loads_none sub place rows old new e cause same = record { enabled = tt; done = tt; keeps = tt; cause = cause; same = same }

pub advances : (sub start count : ℕ) (changes : List Change) (old new : ASession) → HadRoom (can_advance sub count old) old → HasAdvanced sub count changes old new → Advances sub start count changes old new (Ok tt)
advances sub start count changes old new room a = record { enabled = room; done = a; keeps = advanced_keeps sub start count changes old new room.enabled a; cause = tt; same = tt }

pub advances_none : (sub start count : ℕ) (changes : List Change) (old new : ASession) (e : EventFault) → IsCause (can_advance sub count old) old e → new ≡ old → Advances sub start count changes old new (Err e)
advances_none sub start count changes old new e cause same = record { enabled = tt; done = tt; keeps = tt; cause = cause; same = same }

pub feeds : (sub count : ℕ) (news : List Publish) (old new : ASession) → HadRoom (can_advance sub count old) old → IfSome (observer_of sub old) StandsAnywhere → HasFed sub count news old new → Feeds sub count news old new (Ok tt)
feeds sub count news old new room anywhere a = record { enabled = room; done = a; keeps = fed_keeps sub count news old new room.enabled anywhere a; cause = tt; same = tt }

pub feeds_none : (sub count : ℕ) (news : List Publish) (old new : ASession) (e : EventFault) → IsCause (can_advance sub count old) old e → new ≡ old → Feeds sub count news old new (Err e)
feeds_none sub count news old new e cause same = record { enabled = tt; done = tt; keeps = tt; cause = cause; same = same }

pub learns : (k : ℕ) (status : Status) (old new : ASession) → HadRoom (can_learn k status old) old → IsLearnt k status.ended old new → Learns k status old new (Ok tt)
learns k status old new room a = record { enabled = room; done = a; keeps = learnt_keeps k status old new room.enabled a; cause = tt; same = tt }

pub learns_none : (k : ℕ) (status : Status) (old new : ASession) (e : EventFault) → IsCause (can_learn k status old) old e → new ≡ old → Learns k status old new (Err e)
learns_none k status old new e cause same = record { enabled = tt; done = tt; keeps = tt; cause = cause; same = same }

pub refuses : (k place : ℕ) (old new : ASession) → HadRoom (can_refuse k old) old → HasRefused k place old new → Refuses k place old new (Ok tt)
refuses k place old new room a = record { enabled = room; done = a; keeps = refused_keeps k place old new a; cause = tt; same = tt }

pub refuses_none : (k place : ℕ) (old new : ASession) (e : EventFault) → IsCause (can_refuse k old) old e → new ≡ old → Refuses k place old new (Err e)
refuses_none k place old new e cause same = record { enabled = tt; done = tt; keeps = tt; cause = cause; same = same }

pub closes : (old : ASession) → Closes old (dropped old)
closes old = record { done = refl; keeps = dropped_keeps old }
