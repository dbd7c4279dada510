-- Which items may follow a journal: the item is the one that is made of its message there, and what it says of the store is so at the moments of the store.
use Rattle.std.specs.Prelude.{◌≡◌, ℕ, ◌+◌, ◌<◌, List, [], ◌∷◌, length, true, false, Option, Some, None, Ok, Err, IfSome, is_some, decimal, codes}
use Rattle.std.specs.Prelude.{◌++◌, if◌then◌else◌}
use Rattle.value_model.specs.Val.{Val, text}
use Rattle.value_model.specs.Valid.{IsValue}
use Rattle.ddp_messages.specs.Limits.{IsShort, IsShallow}
use Rattle.ddp_messages.specs.ClientMessage.{ClientMessage}
use Rattle.ddp_messages.specs.ClientMessage as client
use Rattle.program_steps.specs.declared.outcome.Status.{Status}
use Rattle.program_steps.specs.Runs.{End}
use Rattle.app_model.specs.App.{App, method}
use Rattle.session_model.specs.declared.fault.SubFault.TheVariants as fault
use Rattle.session_model.specs.Publication.{Making, making}
use Rattle.session_model.specs.Items.{Item, id_of}
use Rattle.session_model.specs.Items as item
use Rattle.session_model.specs.Subscriptions.{sub_named, is_crowded, cursor_of, may_load}
use Rattle.session_model.specs.Methods.{running, Blocking, is_blocked_by, phase_at}
use Rattle.session_model.specs.State.{State, started, after}
use Rattle.session_model.specs.Moments.{Moment, moment_at, run_at, end_at}
use Rattle.session_model.specs.Out.{session_name}

-- ---- the item of a message that is handled

-- the seed of the session's call k: the one that the message has, or the text Sn-k-server
abbrev pub seed_or : ℕ → ℕ → Option Val → Val
seed_or number k None = text (session_name number ++ codes "-" ++ decimal k ++ codes "-server")
seed_or number k (Some seed) = seed

abbrev pub opened_by : ℕ → ClientMessage → Making → Item
opened_by s message (Ok cursors) = item.subscribe s message cursors
opened_by s message (Err e) = item.nosub message (Some e)

abbrev pub closed_by : ClientMessage → Option ℕ → Item
closed_by message None = item.nosub message None
closed_by message (Some s) = item.close s message

-- A `sub` with the id of a live subscription is ignored; one past the limit is refused, and one whose cursors can't be made. An `unsub` ends the live
-- subscription with its id. A `method` that the application has is called (DDP.md, "Managing data", "Remote procedure calls"). No other message is handled so
abbrev pub item_for : App → ℕ → State → ClientMessage → Item
item_for app number st (client.sub id name params) =
    if is_some (sub_named id st.subs) then item.same (client.sub id name params)
    else (if is_crowded st.subs then item.nosub (client.sub id name params) (Some fault.TooMany)
    else opened_by st.opened (client.sub id name params) (making app name params))
item_for app number st (client.unsub id) = closed_by (client.unsub id) (sub_named id st.subs)
item_for app number st (client.method id name params seed) =
    if is_some (method app name) then item.call (length st.methods) (client.method id name params seed) (seed_or number (length st.methods) seed)
    else item.unknown (client.method id name params seed)
item_for app number st message = item.pong

-- the item is made of the message, which has an id of at most 256 bytes; the session is connected, and no call blocks
pub record IsHandled (app : App) (number : ℕ) (st : State) (message : ClientMessage) (i : Item) : Type 0 where
  pub connected : st.connected ≡ true
  pub free : st.blocking ≡ None
  pub short : IsShort (id_of message)
  pub made : item_for app number st message ≡ i

-- ---- what an item says of the store

-- the history has no room for the call that blocks, and its run was not begun
pub record IsRefused (moment : Moment) (k : ℕ) (b : Blocking) : Type 0 where
  pub number : b.k ≡ k
  pub begun : moment.run k ≡ None
  pub full : moment.is_full b.method b.params b.seed ≡ true

abbrev pub IsRefusedAt : Option Moment → ℕ → Option Blocking → Type 0
IsRefusedAt None k b = ⊥
IsRefusedAt (Some moment) k None = ⊥
IsRefusedAt (Some moment) k (Some b) = IsRefused moment k b

-- at some moment the run of the call let the next message be handled, and had not ended
pub record HasUnblocked (C : List Moment) (k : ℕ) : Type 0 where
  pub place : ℕ
  pub status : Status
  pub is : run_at C place k ≡ Some status
  pub unblocked : status.unblocked ≡ true
  pub ended : status.ended ≡ None

-- the run of the call had ended at the place, with an end there
pub record HasEnded (C : List Moment) (place k : ℕ) : Type 0 where
  pub end : End
  pub is : end_at C place k ≡ Some end
  pub there : end.at ≡ place

-- a subscription at a place may go this many entries on
abbrev pub MayAdvance : ℕ → ℕ → Option ℕ → Type 0
MayAdvance moments count None = ⊥
MayAdvance moments count (Some place) = (0 < count) × (place + count < moments)

-- ---- what an item may follow

abbrev pub CanFollow : App → ℕ → List Moment → State → Item → Type 0
CanFollow app number C st item.connect = (st.connected ≡ false) × (st.failed ≡ false)
CanFollow app number C st item.fail = (st.connected ≡ false) × (st.failed ≡ false)
CanFollow app number C st (item.ping id) = st.connected ≡ true
CanFollow app number C st item.pong = st.connected ≡ true
CanFollow app number C st (item.bad reason offending) = (st.failed ≡ false) × IfSome offending IsValue × IfSome offending IsShallow
CanFollow app number C st (item.subscribe s message cursors) = IsHandled app number st message (item.subscribe s message cursors)
CanFollow app number C st (item.same message) = IsHandled app number st message (item.same message)
CanFollow app number C st (item.nosub message e) = IsHandled app number st message (item.nosub message e)
CanFollow app number C st (item.close s message) = IsHandled app number st message (item.close s message)
CanFollow app number C st (item.call k message seed) = IsHandled app number st message (item.call k message seed)
CanFollow app number C st (item.unknown message) = IsHandled app number st message (item.unknown message)
CanFollow app number C st (item.load s place) = (may_load s place st.subs ≡ true) × (place < length C)
CanFollow app number C st (item.advance s count) = MayAdvance (length C) count (cursor_of s st.subs)
CanFollow app number C st (item.refused k place) = IsRefusedAt (moment_at C place) k st.blocking
CanFollow app number C st (item.unblocked k) = (is_blocked_by k st.blocking ≡ true) × HasUnblocked C k
CanFollow app number C st (item.finished k place) = (phase_at k st.methods ≡ Some running) × HasEnded C place k

-- each item could follow those before it
abbrev pub FitsFrom : App → ℕ → List Moment → State → List Item → Type 0
FitsFrom app number C st [] = Unit {0}
FitsFrom app number C st (i ∷ items) = CanFollow app number C st i × FitsFrom app number C (after st i) items

-- the journal is one of the session with this number, over these moments
abbrev pub Fits : App → ℕ → List Moment → List Item → Type 0
Fits app number C items = FitsFrom app number C started items
