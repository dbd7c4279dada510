-- The events of a session: what each changes, when and why it is refused, that a refusal changes nothing, and what the session stands for afterwards.
use Rattle.std.specs.Prelude.{◌≡◌, ◌⊎◌, ℕ, suc, ◌+◌, ◌<◌, List, [], ◌∷◌, ◌++◌, drop, length, map, true, false, Option, None, Some, Result, OnOk}
use Rattle.std.specs.Prelude.{OnErr, IfErr, IfSome}
use Rattle.map_model.specs.Changes.{Leads}
use Rattle.merge_model.specs.Publishing.{Call, apply, drop_sub, renewed}
use Rattle.value_model.specs.Val.{Entries}
use Rattle.ejson_value.specs.declared.key.Key.{Key}
use Rattle.ejson_value.specs.declared.change.Change.{Change}
use Rattle.ejson_value.specs.declared.change.Publish.{Publish}
use Rattle.ejson_value.specs.Key.{key_cmp}
use Rattle.ejson_value.specs.Rows.{Rows}
use Rattle.ejson_value.specs.Changes.{changes_of, news_of}
use Rattle.ddp_messages.specs.ClientMessage.{ClientMessage}
use Rattle.ddp_messages.specs.ServerMessage.{ServerMessage}
use Rattle.program_steps.specs.declared.outcome.Status.{Status}
use Rattle.program_steps.specs.Runs.{End}
use Rattle.publication.specs.Cursors.{ACursors}
use Rattle.publication.specs.Published.{IsQuery}
use Rattle.live_observer.specs.Observing.{AnObserver, APlan, cursors_of, StandsAt, Follows, IsStep, carried, HaveNoLimit}
use Rattle.session_model.specs.Publication.{queried}
use Rattle.session_model.specs.Items.{Item, handled_by}
use Rattle.session_model.specs.Items as item
use Rattle.session_model.specs.Subscriptions.{Live, of_sub, cursor_of}
use Rattle.session_model.specs.Methods.{id_at}
use Rattle.session_model.specs.State.{own_after}
use Rattle.session_model.specs.Moments.{Moment, moment_at, rows_at, run_at}
use Rattle.session_model.specs.Taking.{Taken, at_once, to_queue, taken_text}
use Rattle.session_model.specs.Out.{own_messages, result_by}
use Rattle.session_model.specs.Fits.{item_for, IsRefusedAt}
use Rattle.session_laws.specs.declared.fault.EventFault.{EventFault}
use Rattle.session_laws.specs.declared.fault.EventFault.TheVariants as fault
use Rattle.session_laws.specs.Session.{ASession, is_full, is_crowded, is_at_work, can_handle, can_load, can_advance, can_learn, can_refuse, IsCause}
use Rattle.session_laws.specs.Session.{HadRoom, dropped}
use Rattle.session_model.specs.Observers.{observers_without, observer_at, observers_with, observers_changed}
use Rattle.session_laws.specs.Adding.{HasAdded}
use Rattle.session_laws.specs.Storing.{kept_as, shown_id}
use Rattle.session_laws.specs.Meaning.{Means}

abbrev pub Outcome : Type 0
Outcome = Result (Unit {0}) EventFault

-- ---- one item more

-- the item is added, with what it says where it needs no store, by a call of the merge; the text or the message that it answers has this place
abbrev pub HasDone : ℕ → Item → Call Key Entries → ASession → ASession → Type 0
HasDone place i call old new =
    HasAdded (kept_as place i) (shown_id i) call (own_after old.carried.own i) (own_messages [] old.carried.number old.carried.own i) old new

-- nothing more was taken, and nothing waits otherwise
pub record Waits (old new : ASession) : Type 0 where
  pub taken : new.carried.taken ≡ old.carried.taken
  pub waiting : new.carried.waiting ≡ old.carried.waiting
  pub places : new.places ≡ old.places
  pub bytes : new.bytes ≡ old.bytes

-- ---- a text is taken

pub record IsAnswered (i : Item) (old new : ASession) : Type 0 where
  pub done : HasDone old.carried.taken i (apply 0 []) old new
  pub taken : new.carried.taken ≡ suc old.carried.taken
  pub waiting : new.carried.waiting ≡ old.carried.waiting
  pub places : new.places ≡ old.places
  pub bytes : new.bytes ≡ old.bytes
  pub observers : new.observers ≡ old.observers

-- the message of a text of so many bytes waits
abbrev pub queued : ClientMessage → ℕ → ASession → ASession
queued message n s = record s {
  carried = record s.carried { taken = suc s.carried.taken; waiting = s.carried.waiting ++ message ∷ [] };
  places = s.places ++ s.carried.taken ∷ [];
  bytes = s.bytes ++ n ∷ [];
}

abbrev pub IsTakenAs : Taken → ℕ → ASession → ASession → Type 0
IsTakenAs (at_once i) n old new = IsAnswered i old new
IsTakenAs (to_queue message) n old new = (is_crowded old n ≡ false) × (new ≡ queued message n old)

-- the text is one whose message is to wait, and there is no room for it
abbrev pub IsCrowdedOut : Taken → ℕ → ASession → Type 0
IsCrowdedOut (at_once i) n s = ⊥
IsCrowdedOut (to_queue message) n s = is_crowded s n ≡ true

-- no room for a message of so many bytes, or want of memory
abbrev pub IsPutCause : ℕ → ASession → EventFault → Type 0
IsPutCause n s fault.Idle = ⊥
IsPutCause n s fault.JournalFull = ⊥
IsPutCause n s fault.QueueFull = is_crowded s n ≡ true
IsPutCause n s fault.Memory = Unit {0}

pub record IsCrowdedBy (t : List ℕ) (s : ASession) : Type 0 where
  pub enabled : is_at_work s ≡ true
  pub room : is_full s ≡ false
  pub crowded : IsCrowdedOut (taken_text s.carried.own.connected t) (length t) s

abbrev pub IsTakeCause : List ℕ → ASession → EventFault → Type 0
IsTakeCause t s fault.QueueFull = IsCrowdedBy t s
IsTakeCause t s e = IsCause (is_at_work s) s e

abbrev pub KeepsTaking : List ℕ → ASession → ASession → Type 0
KeepsTaking t old new = (taken : List (List ℕ)) (C : List Moment) (sent : List (List ℕ)) → Means taken C sent old → Means (taken ++ t ∷ []) C sent new

-- a text is taken: an item answers it at once, or its message waits
pub record Takes (t : List ℕ) (old new : ASession) (result : Outcome) : Type 0 where
  pub enabled : OnOk result (HadRoom (is_at_work old) old)
  pub done : OnOk result (IsTakenAs (taken_text old.carried.own.connected t) (length t) old new)
  pub keeps : OnOk result (KeepsTaking t old new)
  pub cause : IfErr result (IsTakeCause t old)
  pub same : OnErr result (new ≡ old)

-- ---- a message is handled

abbrev pub Keeps : ASession → ASession → Type 0
Keeps old new = (taken : List (List ℕ)) (C : List Moment) (sent : List (List ℕ)) → Means taken C sent old → Means taken C sent new

-- the call of the merge that an item is which needs no store
abbrev pub plain_call : Item → Call Key Entries
plain_call (item.close s message) = drop_sub s
plain_call i = apply 0 []

-- the observers after an item that needs no store
abbrev pub observers_after : Item → List Live → List (Option AnObserver) → List (Option AnObserver)
observers_after (item.subscribe s message cursors) ls os = os ++ None ∷ []
observers_after (item.close s message) ls os = observers_without s ls os
observers_after i ls os = os

-- the item answers the first message that waits, whose text has this place
pub record IsHandledAs (place : ℕ) (message : ClientMessage) (old new : ASession) : Type 0 where
  pub done : let i = item_for old.carried.app old.carried.number old.carried.own message in HasDone place i (plain_call i) old new
  pub taken : new.carried.taken ≡ old.carried.taken
  pub waiting : new.carried.waiting ≡ drop 1 old.carried.waiting
  pub places : new.places ≡ drop 1 old.places
  pub bytes : new.bytes ≡ drop 1 old.bytes
  pub observers : new.observers ≡ observers_after (item_for old.carried.app old.carried.number old.carried.own message) old.carried.own.subs old.observers

abbrev pub HasHandled : List ℕ → List ClientMessage → ASession → ASession → Type 0
HasHandled [] ms old new = ⊥
HasHandled (place ∷ places) [] old new = ⊥
HasHandled (place ∷ places) (message ∷ ms) old new = IsHandledAs place message old new

-- the first message that waits is handled, by the item that is made of it there
pub record Handles (old new : ASession) (result : Outcome) : Type 0 where
  pub enabled : OnOk result (HadRoom (can_handle old) old)
  pub done : OnOk result (HasHandled old.places old.carried.waiting old new)
  pub keeps : OnOk result (Keeps old new)
  pub cause : IfErr result (IsCause (can_handle old) old)
  pub same : OnErr result (new ≡ old)

-- ---- a subscription is loaded, and goes on

-- the cursors of a live subscription, and its observer once it is loaded
abbrev pub cursors_at : ℕ → ASession → ACursors
cursors_at sub s = of_sub (λ (l : Live). l.cursors) [] sub s.carried.own.subs

abbrev pub observer_of : ℕ → ASession → Option AnObserver
observer_of sub s = observer_at sub s.carried.own.subs s.observers

-- The item hands in each document that the cursors publish of these, and from then on the subscription has an observer that stands at them
pub record HasLoaded (sub place : ℕ) (rows : Rows) (old new : ASession) : Type 0 where
  pub answer : List Publish
  pub query : IsQuery (cursors_at sub old) rows answer
  pub done : HasDone 0 (item.load sub place) (apply sub (news_of answer)) old new
  pub waits : Waits old new
  pub observer : AnObserver
  pub cursors : cursors_of observer ≡ cursors_at sub old
  pub stands : StandsAt observer rows
  pub observers : new.observers ≡ observers_with sub (Some observer) old.carried.own.subs old.observers

-- these are the documents of the store after so many entries
pub record IsSnapshot (C : List Moment) (place : ℕ) (rows : Rows) : Type 0 where
  pub within : place < length C
  pub documents : rows ≡ rows_at C place

abbrev pub KeepsLoading : ℕ → Rows → ASession → ASession → Type 0
KeepsLoading place rows old new = (taken : List (List ℕ)) (C : List Moment) (sent : List (List ℕ)) → Means taken C sent old → IsSnapshot C place rows →
    Means taken C sent new

-- the subscription shows what its cursors publish of the documents
pub record Loads (sub place : ℕ) (rows : Rows) (old new : ASession) (result : Outcome) : Type 0 where
  pub enabled : OnOk result (HadRoom (can_load sub place old) old)
  pub done : OnOk result (HasLoaded sub place rows old new)
  pub keeps : OnOk result (KeepsLoading place rows old new)
  pub cause : IfErr result (IsCause (can_load sub place old) old)
  pub same : OnErr result (new ≡ old)

-- the observer tells these news of the changes, and the plan leads it to where they lead
abbrev pub Tells : List Change → List Publish → APlan → AnObserver → Type 0
Tells changes news plan observer = (rows rows' : Rows) → Follows observer changes rows rows' → IsStep observer rows rows' (news_of news) plan

-- The item hands in what the subscription's observer tells of the changes, and the observer goes on over them
pub record HasAdvanced (sub count : ℕ) (changes : List Change) (old new : ASession) : Type 0 where
  pub news : List Publish
  pub plan : APlan
  pub told : IfSome (observer_of sub old) (Tells changes news plan)
  pub done : HasDone 0 (item.advance sub count) (apply sub (news_of news)) old new
  pub waits : Waits old new
  pub observers : new.observers ≡ observers_changed sub (λ (o : AnObserver). carried o plan) old.carried.own.subs old.observers

-- the entries behind the first `start`, so many of them, begin at this place of the store, and their changes lead on to a later one
pub record IsBatch (C : List Moment) (place : Option ℕ) (start count : ℕ) (changes : List Change) : Type 0 where
  pub from : place ≡ Some start
  pub within : start + count < length C
  pub leads : Leads key_cmp (changes_of changes) (rows_at C start) (rows_at C (start + count))

abbrev pub KeepsAdvancing : ℕ → ℕ → ℕ → List Change → ASession → ASession → Type 0
KeepsAdvancing sub start count changes old new =
    (taken : List (List ℕ)) (C : List Moment) (sent : List (List ℕ)) → Means taken C sent old →
    IsBatch C (cursor_of sub old.carried.own.subs) start count changes → Means taken C sent new

-- the subscription goes on over a batch of entries
pub record Advances (sub start count : ℕ) (changes : List Change) (old new : ASession) (result : Outcome) : Type 0 where
  pub enabled : OnOk result (HadRoom (can_advance sub count old) old)
  pub done : OnOk result (HasAdvanced sub count changes old new)
  pub keeps : OnOk result (KeepsAdvancing sub start count changes old new)
  pub cause : IfErr result (IsCause (can_advance sub count old) old)
  pub same : OnErr result (new ≡ old)

-- The item hands in the news; the observers stay
pub record HasFed (sub count : ℕ) (news : List Publish) (old new : ASession) : Type 0 where
  pub done : HasDone 0 (item.advance sub count) (apply sub (news_of news)) old new
  pub waits : Waits old new
  pub observers : new.observers ≡ old.observers

-- The news lead from what the subscription shows at its place to what it publishes so many entries on, where the store has such a moment.
-- None of its cursors has a limit
pub record IsFeed (C : List Moment) (sub count : ℕ) (news : List Publish) (s : ASession) : Type 0 where
  pub from : ℕ
  pub loaded : cursor_of sub s.carried.own.subs ≡ Some from
  pub within : from + count < length C
  pub no_limit : HaveNoLimit (cursors_at sub s)
  pub leads : renewed key_cmp (queried (cursors_at sub s) (rows_at C from)) (news_of news) ≡ queried (cursors_at sub s) (rows_at C (from + count))

abbrev pub KeepsFeeding : ℕ → ℕ → List Publish → ASession → ASession → Type 0
KeepsFeeding sub count news old new = (taken : List (List ℕ)) (C : List Moment) (sent : List (List ℕ)) → Means taken C sent old →
    IsFeed C sub count news old → Means taken C sent new

-- the subscription goes on, by news that were made elsewhere
pub record Feeds (sub count : ℕ) (news : List Publish) (old new : ASession) (result : Outcome) : Type 0 where
  pub enabled : OnOk result (HadRoom (can_advance sub count old) old)
  pub done : OnOk result (HasFed sub count news old new)
  pub keeps : OnOk result (KeepsFeeding sub count news old new)
  pub cause : IfErr result (IsCause (can_advance sub count old) old)
  pub same : OnErr result (new ≡ old)

-- ---- a call is learnt of

-- an item that says this; nothing waits otherwise, and what is shown stays
pub record HasLearnt (i : Item) (words : List ServerMessage) (old new : ASession) : Type 0 where
  pub added : HasAdded (kept_as 0 i) None (apply 0 []) (own_after old.carried.own i) words old new
  pub waits : Waits old new
  pub observers : new.observers ≡ old.observers

-- the run has ended: the call has its result; or it lets the next message be handled
abbrev pub IsLearnt : ℕ → Option End → ASession → ASession → Type 0
IsLearnt k (Some end) old new = HasLearnt (item.finished k end.at) (map (result_by end.outcome) (id_at k old.carried.own.methods)) old new
IsLearnt k None old new = HasLearnt (item.unblocked k) [] old new

-- the run of the call has the status at some moment of the store, and where it has ended, it has so at its end
pub record IsStatus (C : List Moment) (k : ℕ) (status : Status) : Type 0 where
  pub place : ℕ
  pub is : run_at C place k ≡ Some status
  pub end : IfSome status.ended (λ end. run_at C end.at k ≡ Some status)

abbrev pub KeepsLearning : ℕ → Status → ASession → ASession → Type 0
KeepsLearning k status old new = (taken : List (List ℕ)) (C : List Moment) (sent : List (List ℕ)) → Means taken C sent old → IsStatus C k status →
    Means taken C sent new

pub record Learns (k : ℕ) (status : Status) (old new : ASession) (result : Outcome) : Type 0 where
  pub enabled : OnOk result (HadRoom (can_learn k status old) old)
  pub done : OnOk result (IsLearnt k status.ended old new)
  pub keeps : OnOk result (KeepsLearning k status old new)
  pub cause : IfErr result (IsCause (can_learn k status old) old)
  pub same : OnErr result (new ≡ old)

abbrev pub KeepsRefusing : ℕ → ℕ → ASession → ASession → Type 0
KeepsRefusing k place old new =
    (taken : List (List ℕ)) (C : List Moment) (sent : List (List ℕ)) → Means taken C sent old →
    IsRefusedAt (moment_at C place) k old.carried.own.blocking → Means taken C sent new

abbrev pub HasRefused : ℕ → ℕ → ASession → ASession → Type 0
HasRefused k place old new = HasLearnt (item.refused k place) (own_messages [] old.carried.number old.carried.own (item.refused k place)) old new

-- the history, at this place, had no room for the call
pub record Refuses (k place : ℕ) (old new : ASession) (result : Outcome) : Type 0 where
  pub enabled : OnOk result (HadRoom (can_refuse k old) old)
  pub done : OnOk result (HasRefused k place old new)
  pub keeps : OnOk result (KeepsRefusing k place old new)
  pub cause : IfErr result (IsCause (can_refuse k old) old)
  pub same : OnErr result (new ≡ old)

-- ---- a text is sent

-- the text is the first of the outbox
pub record HasSent (t : List ℕ) (old new : ASession) : Type 0 where
  pub first : old.carried.outbox ≡ t ∷ new.carried.outbox
  pub rest : new ≡ record old { carried = record old.carried { outbox = new.carried.outbox } }
  pub keeps : (taken : List (List ℕ)) (C : List Moment) (sent : List (List ℕ)) → Means taken C sent old → Means taken C (sent ++ t ∷ []) new

-- there is none, or the session was closed
pub record SendsNone (old new : ASession) : Type 0 where
  pub why : (old.carried.outbox ≡ []) ⊎ (old.dropped ≡ true)
  pub same : new ≡ old

abbrev pub Sends : ASession → ASession → Option (List ℕ) → Type 0
Sends old new None = SendsNone old new
Sends old new (Some t) = HasSent t old new × (old.dropped ≡ false)

-- ---- the session is closed

pub record Closes (old new : ASession) : Type 0 where
  pub done : new ≡ dropped old
  pub keeps : Keeps old new
