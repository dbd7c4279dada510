-- The acts of a client, of its session and of the store: when each is enabled, what it does to the client and its session, and the entry that it
-- adds to the history (Meteor's DDP.md, "Managing data",
-- "Remote procedure calls"; the limits and the order of their tests are ours).
use Rattle.std.specs.Prelude.{ℕ, ◌+◌, ◌==◌, List, [], ◌∷◌, ◌++◌, length, map, Bool, true, false, not, ◌&&◌, ◌||◌, nat_lt, nat_le, Option, Some, None}
use Rattle.std.specs.Prelude.{is_some, is_none, option_map, if◌then◌else◌}
use Rattle.map_model.specs.Maps.{at}
use Rattle.program_steps.specs.declared.outcome.Status.{Status}
use Rattle.program_steps.specs.Runs.{End}
use Rattle.app_model.specs.App.{App}
use Rattle.history_model.specs.declared.entry.Entry.{Entry}
use Rattle.history_model.specs.declared.entry.Entry.TheVariants as entry
use Rattle.history_model.specs.History.{Held, run_cmp, goes_on, status_in, status_at, is_full as is_full_for}
use Rattle.client_model.specs.Taking.{told_text}
use Rattle.client_model.specs.Asking.{can_take}
use Rattle.ddp_messages.specs.Texts.{server_text}
use Rattle.session_model.specs.Items.{Item}
use Rattle.session_model.specs.Items as item
use Rattle.session_model.specs.Subscriptions.{cursor_of, may_load}
use Rattle.session_model.specs.Methods.{Phase, running, Blocking, is_blocked_by, phase_at}
use Rattle.session_model.specs.State.{State}
use Rattle.session_model.specs.Shown.{calls_of}
use Rattle.session_model.specs.Out.{messages_of}
use Rattle.session_model.specs.Taking.{Taken, at_once, to_queue, taken_text}
use Rattle.session_model.specs.Fits.{item_for}
use Rattle.world_model.specs.declared.events.Act.{Act}
use Rattle.world_model.specs.declared.events.Act.TheVariants as act
use Rattle.world_model.specs.declared.events.Answer.{Answer}
use Rattle.world_model.specs.declared.events.Answer.TheVariants as answer
use Rattle.world_model.specs.Store.{programs, held_in, moments, value_of}
use Rattle.world_model.specs.Conn.{Waiting, Refusal, Conn, state_in, link_limit, is_full, is_crowded, is_at_work, has_some}

-- ---- one item more

-- the texts of an item that is added now
abbrev pub item_texts : App → List Entry → Conn → Item → List (List ℕ)
item_texts app history c i = let C = moments app c.number history in map server_text (messages_of C c.number (calls_of C c.items) (state_in c) i)

-- the session adds an item to its journal, and the item's texts to its outbox
abbrev pub with_item : App → List Entry → Conn → Item → Conn
with_item app history c i = record c { items = c.items ++ i ∷ []; outbox = c.outbox ++ item_texts app history c i }

-- ---- up: a text goes to the server

abbrev pub goes_up : Conn → List (List ℕ) → Conn
goes_up c [] = c
goes_up c (t ∷ ts) = record c { client = record c.client { waiting = ts }; upward = c.upward ++ t ∷ [] }

-- ---- recv: the session takes a text

-- some texts are answered at once, and others have messages that wait
abbrev pub received_as : App → List Entry → Conn → ℕ → Taken → Conn
received_as app history c bytes (at_once i) = with_item app history c i
received_as app history c bytes (to_queue message) = record c { queue = c.queue ++ record { message = message; bytes = bytes } ∷ [] }

abbrev pub receives : App → List Entry → Conn → List (List ℕ) → Conn
receives app history c [] = c
receives app history c (t ∷ ts) =
    received_as app history (record c { upward = ts; received = c.received ++ t ∷ [] }) (length t) (taken_text (state_in c).connected t)

-- the text's message is to wait, and there is no room for it
abbrev pub is_crowded_out : List Waiting → ℕ → Taken → Bool
is_crowded_out queue bytes (at_once i) = false
is_crowded_out queue bytes (to_queue message) = is_crowded queue bytes

abbrev pub is_crowded_by : Conn → List (List ℕ) → Bool
is_crowded_by c [] = false
is_crowded_by c (t ∷ ts) = is_crowded_out c.queue (length t) (taken_text (state_in c).connected t)

-- ---- handle: the session handles a message

abbrev pub handles : App → List Entry → Conn → List Waiting → Conn
handles app history c [] = c
handles app history c (w ∷ ws) = with_item app history (record c { queue = ws }) (item_for app c.number (state_in c) w.message)

-- ---- begin: the store begins a call

abbrev pub is_kept : ℕ → Option Refusal → Bool
is_kept k None = false
is_kept k (Some r) = k == r.k

abbrev pub without_run : Held → Conn → Option Blocking → Option Blocking
without_run h c None = None
without_run h c (Some b) = if is_some (status_in h c.number b.k) || is_kept b.k c.kept then None else Some b

-- the call that blocks, where its run wasn't begun and no refusal of it is kept.
-- Every earlier call of the session was begun or refused, since it blocks no more
abbrev pub unbegun : App → List Entry → Conn → Option Blocking
unbegun app history c = without_run (held_in app history) c (state_in c).blocking

-- the history has no room for the call
abbrev pub is_refused : App → List Entry → Blocking → Bool
is_refused app history b = is_full_for (programs app) (held_in app history) b.method b.params b.seed

abbrev pub begin_entry : ℕ → Blocking → Entry
begin_entry number b = entry.Begin number b.k b.method b.params (value_of b.seed)

abbrev pub begun : App → List Entry → ℕ → Option Blocking → List Entry
begun app history number None = []
begun app history number (Some b) = if is_refused app history b then [] else begin_entry number b ∷ []

abbrev pub refusal_kept : App → List Entry → Option Blocking → Option Refusal → Option Refusal
refusal_kept app history None kept = kept
refusal_kept app history (Some b) kept = if is_refused app history b then Some (record { k = b.k; at = length history }) else kept

-- ---- learn: the session learns of a call

abbrev pub is_running : Option Phase → Bool
is_running (Some running) = true
is_running p = false

-- the run has ended; or it let the next message be handled, and the call blocks
abbrev pub news_of : State → ℕ → Bool → Option End → Option Item
news_of st k unblocked (Some end) = Some (item.finished k end.at)
news_of st k unblocked None = if unblocked && is_blocked_by k st.blocking then Some (item.unblocked k) else None

abbrev pub news_by : State → ℕ → Option Status → Option Item
news_by st k None = None
news_by st k (Some status) = if is_running (phase_at k st.methods) then news_of st k status.unblocked status.ended else None

-- what there is to learn of the call at a place of the history
abbrev pub learnt : App → List Entry → Conn → ℕ → ℕ → Option Item
learnt app history c k place =
    if is_kept k c.kept then option_map (λ (r : Refusal). item.refused k r.at) c.kept
    else (if nat_le place (length history) then news_by (state_in c) k (status_at (programs app) history place c.number k) else None)

abbrev pub learns_item : App → List Entry → Conn → Option Item → Conn
learns_item app history c None = c
learns_item app history c (Some i) = with_item app history c i

-- a refusal that is learnt is kept no longer
abbrev pub learns : App → List Entry → Conn → ℕ → ℕ → Conn
learns app history c k place = learns_item app history (record c { kept = if is_kept k c.kept then None else c.kept }) (learnt app history c k place)

-- ---- advance: a subscription goes on

-- so many entries on from where it is loaded, within a history of this length
abbrev pub may_advance : ℕ → ℕ → Option ℕ → Bool
may_advance entries count None = false
may_advance entries count (Some cursor) = nat_lt 0 count && nat_le (cursor + count) entries

-- ---- send and take: a text goes to the client, which takes it

abbrev pub sends : Conn → List (List ℕ) → Conn
sends c [] = c
sends c (t ∷ ts) = record c { outbox = ts; sent = c.sent ++ t ∷ []; downward = c.downward ++ t ∷ [] }

-- a text that the client refuses is off the link too
abbrev pub takes : Conn → List (List ℕ) → Conn
takes c [] = c
takes c (t ∷ ts) = record c { downward = ts; client = told_text c.client t }

-- ---- all of them

-- A subscription is loaded no earlier than at its floor, and once. A session that refused a version only sends, and one that is gone, like its
-- client, does nothing more, while its runs go on
abbrev pub enabled : App → List Entry → Conn → Act → Bool
enabled app history c act.Up = not c.is_dropped && has_some c.client.waiting && nat_lt (length c.upward) link_limit
enabled app history c act.Recv = is_at_work c && has_some c.upward
enabled app history c act.Handle = is_at_work c && has_some c.queue && is_none (state_in c).blocking
enabled app history c act.Begin = not c.is_dropped && is_some (unbegun app history c)
enabled app history c (act.Step k) = goes_on (at run_cmp (held_in app history).runs (c.number, k))
enabled app history c (act.Learn k place) = is_at_work c && is_some (learnt app history c k place)
enabled app history c (act.Load sub place) = is_at_work c && nat_le place (length history) && may_load sub place (state_in c).subs
enabled app history c (act.Advance sub count) = is_at_work c && may_advance (length history) count (cursor_of sub (state_in c).subs)
enabled app history c act.Send = not c.is_dropped && has_some c.outbox && nat_lt (length c.downward) link_limit
enabled app history c act.Take = not c.is_dropped && has_some c.downward && can_take c.client

-- the session adds an item, or a message to its queue
abbrev pub is_of_session : Act → Bool
is_of_session act.Recv = true
is_of_session act.Handle = true
is_of_session (act.Learn k place) = true
is_of_session (act.Load sub place) = true
is_of_session (act.Advance sub count) = true
is_of_session a = false

abbrev pub is_queue_full : Conn → Act → Bool
is_queue_full c act.Recv = is_crowded_by c c.upward
is_queue_full c a = false

-- what is answered to an act, by the first test that holds
abbrev pub outcome : App → List Entry → Conn → Act → Answer
outcome app history c a =
    if not (enabled app history c a) then answer.Idle
    else (if is_of_session a && is_full c then answer.JournalFull
    else (if is_queue_full c a then answer.QueueFull
    else answer.Done))

abbrev pub is_done : Answer → Bool
is_done answer.Done = true
is_done o = false

-- the act is made where it is asked for
abbrev pub can : App → List Entry → Conn → Act → Bool
can app history c a = is_done (outcome app history c a)

-- what the act makes of the client and its session
abbrev pub does : App → List Entry → Conn → Act → Conn
does app history c act.Up = goes_up c c.client.waiting
does app history c act.Recv = receives app history c c.upward
does app history c act.Handle = handles app history c c.queue
does app history c act.Begin = record c { kept = refusal_kept app history (unbegun app history c) c.kept }
does app history c (act.Step k) = c
does app history c (act.Learn k place) = learns app history c k place
does app history c (act.Load sub place) = with_item app history c (item.load sub place)
does app history c (act.Advance sub count) = with_item app history c (item.advance sub count)
does app history c act.Send = sends c c.outbox
does app history c act.Take = takes c c.downward

-- the entry that it adds to the history, if it adds one
abbrev pub entries : App → List Entry → Conn → Act → List Entry
entries app history c act.Begin = begun app history c.number (unbegun app history c)
entries app history c (act.Step k) = entry.Step c.number k ∷ []
entries app history c a = []
