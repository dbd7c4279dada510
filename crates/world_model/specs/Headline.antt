-- What holds of a world: the headline, and what holds of a settled world.
use Rattle.std.specs.Prelude.{◌≡◌, ◌⊎◌, ℕ, ◌+◌, ◌-◌, ◌*◌, ◌<◌, ◌≤◌, ◌==◌, List, [], ◌∷◌, ◌++◌, length, filter, take, Bool, true, false, not, ◌||◌}
use Rattle.std.specs.Prelude.{nat_lt, Some, None, IsSome, IfSome, is_some, if◌then◌else◌}
use Rattle.std.specs.List.{list_any, list_all}
use Rattle.merge_model.specs.Merge.{IsMerge}
use Rattle.merge_model.specs.Publishing.{shown_since}
use Rattle.value_model.specs.Order.{text_cmp}
use Rattle.ejson_value.specs.declared.key.Key.{Key}
use Rattle.ejson_value.specs.Key.{key_cmp}
use Rattle.ejson_value.specs.View.{view}
use Rattle.ejson_value.specs.Rows.{Rows}
use Rattle.ddp_messages.specs.ServerMessage.{ServerMessage}
use Rattle.app_model.specs.App.{App}
use Rattle.history_model.specs.declared.entry.Entry.{Entry}
use Rattle.history_model.specs.declared.entry.Entry.TheVariants as entry
use Rattle.history_model.specs.History.{IsLegal}
use Rattle.client_model.specs.Client.{Call}
use Rattle.client_model.specs.Taking.{max_server_text}
use Rattle.session_model.specs.Publication.{queried}
use Rattle.session_model.specs.Items.{Item}
use Rattle.session_model.specs.Items as item
use Rattle.session_model.specs.Subscriptions.{Live, of_sub}
use Rattle.session_model.specs.Methods.{Method, Blocking}
use Rattle.session_model.specs.State.{calling}
use Rattle.session_model.specs.Moments.{Moment}
use Rattle.session_model.specs.Shown.{calls_of}
use Rattle.session_model.specs.Out.{out}
use Rattle.session_model.specs.Counting.{results, updateds, methods_handled, is_running}
use Rattle.session_model.specs.LooksBack.{opened_in, loaded_at, is_closed, is_refused_in}
use Rattle.session_model.specs.Replies.{replies, replies_due}
use Rattle.session_model.specs.Reflected.{methods_reflected}
use Rattle.world_model.specs.Store.{programs, held_in, moments}
use Rattle.world_model.specs.Conn.{Conn, state_in, journal_limit}
use Rattle.world_model.specs.World.{World, conn_of}

-- ---- quiescent sessions

-- each live subscription is loaded, at the end of a history of this length
abbrev pub AreAtEnd : ℕ → List Live → Type 0
AreAtEnd entries [] = Unit {0}
AreAtEnd entries (l ∷ ls) = (l.cursor ≡ Some entries) × AreAtEnd entries ls

-- each call has finished or was refused
abbrev pub have_ended : List Method → Bool
have_ended ms = list_all (λ (m : Method). not (is_running m.phase)) ms

-- the server said of each call that its writes are there
abbrev pub are_updated : List Call → Bool
are_updated calls = list_all (λ (call : Call). call.is_updated) calls

-- The session is quiescent: its client is there, took the session's name and refused nothing; no text and no message waits anywhere; each call has
-- come to its end, for the session and for the
-- client; and each live subscription is at the end of the history.
pub record IsQuiescent (history : List Entry) (c : Conn) : Type 0 where
  pub present : c.is_dropped ≡ false
  pub connected : IsSome c.client.session
  pub accepted : c.client.is_failed ≡ false
  pub unbroken : c.client.broken ≡ None
  pub waiting : c.client.waiting ≡ []
  pub upward : c.upward ≡ []
  pub queue : c.queue ≡ []
  pub outbox : c.outbox ≡ []
  pub downward : c.downward ≡ []
  pub ended : have_ended (state_in c).methods ≡ true
  pub at_end : AreAtEnd (length history) (state_in c).subs
  pub updated : are_updated c.client.calls ≡ true

-- ---- what a session publishes of the store

-- what each live subscription publishes of the documents, queried anew; the others publish nothing
abbrev pub whole_shown : Rows → List Live → ℕ → Rows
whole_shown rows ls s = of_sub (λ (l : Live). queried l.cursors rows) [] s ls

-- since when each of them publishes what it does, by the session's journal
abbrev pub since_in : App → List Entry → Conn → ℕ → Key → List ℕ → ℕ
since_in app history c = shown_since key_cmp text_cmp (calls_of (moments app c.number history) c.items)

-- ---- calls that are begun

abbrev pub call_by : Item → List Blocking
call_by (item.call k message seed) = calling k message seed ∷ []
call_by i = []

-- the calls that the session handled: number, method, parameters and seed, in order
abbrev pub calls_in : List Item → List Blocking
calls_in [] = []
calls_in (i ∷ items) = call_by i ++ calls_in items

-- those that were not refused
abbrev pub standing : List Item → List Blocking
standing items = filter (λ (b : Blocking). not (is_refused_in items b.k)) (calls_in items)

abbrev pub begun_by : ℕ → Entry → List Blocking
begun_by number (entry.Begin session k method params seed) =
    if number == session then record { k = k; method = method; params = params; seed = view seed } ∷ [] else []
begun_by number e = []

-- the calls of the session with this number that the history begins, in order
abbrev pub begun_in : ℕ → List Entry → List Blocking
begun_in number [] = []
begun_in number (e ∷ es) = begun_by number e ++ begun_in number es

-- the call that blocks is still to begin; those before it are begun
pub record IsAwaiting (history : List Entry) (c : Conn) : Type 0 where
  pub call : Blocking
  pub blocks : (state_in c).blocking ≡ Some call
  pub others : begun_in c.number history ++ call ∷ [] ≡ standing c.items

-- The history begins each call that stands exactly once, in order, with its method, its parameters and its seed; the one that
-- blocks may be still to begin.
abbrev pub IsOnce : List Entry → Conn → Type 0
IsOnce history c = (begun_in c.number history ≡ standing c.items) ⊎ IsAwaiting history c

-- ---- answers

-- What is so of the messages of every session, at work or at rest. The `ready`s and `nosub`s with an id are those that the requests
-- with it have, in their order. No `updated` stands before its `result`. And at no time are more methods with an id `updated` than there
-- are whose writes each live subscription shows that is loaded (Meteor's DDP.md, "Managing data", "Remote procedure calls").
pub record IsAnswering (number : ℕ) (C : List Moment) (items : List Item) : Type 0 where
  pub subs : (id : List ℕ) → replies id (out C number items) ≡ replies_due id items
  pub order : (id : List ℕ) (ms rest : List ServerMessage) → out C number items ≡ ms ++ rest → updateds id ms ≤ results id ms
  pub shown : (id : List ℕ) (n : ℕ) → updateds id (out C number (take n items)) ≤ methods_reflected id (take n items)

-- And nothing is left to answer. Each subscription that was opened is loaded or closed, so that each `sub` has its `ready` or a `nosub`.
-- Each method that was handled has one `result` and one `updated`.
pub record IsAnswered (number : ℕ) (C : List Moment) (items : List Item) : Type 0 where
  pub so_far : IsAnswering number C items
  pub subs : (s : ℕ) → s < opened_in items → (is_some (loaded_at s items) || is_closed s items) ≡ true
  pub result : (id : List ℕ) → results id (out C number items) ≡ methods_handled id items
  pub updated : (id : List ℕ) → updateds id (out C number items) ≡ methods_handled id items

-- ---- the headline

-- how many items the journal may have, by the texts that the session took, the history and the subscriptions that were opened
abbrev pub most_items : List Entry → Conn → ℕ
most_items history c = 3 * length c.received + length history * opened_in c.items

-- What holds of every session: its calls are begun once, its requests have the answers that are due so far, and its journal has at
-- most three items for each text that it took, and as many as the history has entries for each subscription that it opened.
pub record IsTrueSession (app : App) (history : List Entry) (c : Conn) : Type 0 where
  pub once : IsOnce history c
  pub answering : IsAnswering c.number (moments app c.number history) c.items
  pub short : length c.items ≤ most_items history c

-- What holds of a quiescent session: nothing of a simulation is left in what its client shows; that is, key by key and field by field, the merge of
-- what its live subscriptions publish of the store,
-- queried anew, where the one that has published a field longest goes before the others; each `sub` and each `method` has its answers; and each call
-- that was handled and not refused was begun once.
pub record IsWhole (app : App) (history : List Entry) (c : Conn) : Type 0 where
  pub real : c.client.documents.view ≡ c.client.documents.server
  pub merged : IsMerge key_cmp text_cmp (whole_shown (held_in app history).rows (state_in c).subs) (since_in app history c) c.client.documents.view
  pub answered : IsAnswered c.number (moments app c.number history) c.items
  pub once : begun_in c.number history ≡ standing c.items

-- THE HEADLINE: the store is the fold of one legal history, each session is true to it, and whenever a session is quiescent its client
-- has what is published of the store.
pub record IsTrueWorld (w : World) : Type 0 where
  pub legal : IsLegal (programs w.app) w.history
  pub sessions : (name : List ℕ) → IfSome (conn_of w name) (IsTrueSession w.app w.history)
  pub whole : (name : List ℕ) → IfSome (conn_of w name) (λ (c : Conn). IsQuiescent w.history c → IsWhole w.app w.history c)

-- ---- clients that break

abbrev pub is_long : List ℕ → Bool
is_long t = nat_lt max_server_text (length t)

-- the texts that the client took
abbrev pub taken_by : Conn → List (List ℕ)
taken_by c = take (length c.sent - length c.downward) c.sent

-- the client refused a text, as one that is too long, exactly where it took one
abbrev pub IsLongAlone : Conn → Type 0
IsLongAlone c = ((c.client.broken ≡ None) × (list_any is_long (taken_by c) ≡ false)) ⊎ ((c.client.broken ≡ Some 1) × (list_any is_long (taken_by c) ≡ true))

-- a client that sends no text but those that it is asked for refuses none but for its length
abbrev pub HaveLongAlone : World → Type 0
HaveLongAlone w = (name : List ℕ) → IfSome (conn_of w name) (λ (c : Conn). c.made_raw ≡ false → IsLongAlone c)

-- ---- settled worlds

abbrev pub is_bad : Item → Bool
is_bad (item.bad reason offending) = true
is_bad i = false

-- the journal is full, and may be
pub record IsFilled (history : List Entry) (c : Conn) : Type 0 where
  pub full : journal_limit ≤ length c.items
  pub many : journal_limit ≤ most_items history c

-- The session is quiescent; or its client sent a text as it stands; or one of its texts was refused; or the client took a text that is
-- too long; or the journal is full.
abbrev pub IsAtRest : List Entry → Conn → Type 0
IsAtRest history c =
    IsQuiescent history c ⊎ ((c.made_raw ≡ true) ⊎ ((list_any is_bad c.items ≡ true) ⊎ ((c.client.broken ≡ Some 1) ⊎ IsFilled history c)))

-- The client sent no text as it stands, none of its texts was refused, it took none that is too long, and its journal has room for all
-- that may come of its texts and the history.
pub record IsModest (history : List Entry) (c : Conn) : Type 0 where
  pub asked : c.made_raw ≡ false
  pub read : list_any is_bad c.items ≡ false
  pub taken : list_any is_long (taken_by c) ≡ false
  pub few : most_items history c < journal_limit

-- so it is quiescent, where it is there
abbrev pub AreModestQuiescent : World → Type 0
AreModestQuiescent w = (name : List ℕ) → IfSome (conn_of w name) (λ (c : Conn). c.is_dropped ≡ false → IsModest w.history c → IsQuiescent w.history c)

-- each session whose client is there is at rest
abbrev pub AreAtRest : World → Type 0
AreAtRest w = (name : List ℕ) → IfSome (conn_of w name) (λ (c : Conn). c.is_dropped ≡ false → IsAtRest w.history c)
