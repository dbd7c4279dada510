-- The lines that an event prints: each the EJSON text of a list, whose first element says what the line is.
use Rattle.std.specs.Prelude.{ℕ, List, [], ◌∷◌, ◌++◌, length, map, Bool, true, false, Option, Some, None, codes}
use Rattle.value_model.specs.Val.{Val, text}
use Rattle.app_model.specs.App.{App}
use Rattle.history_model.specs.declared.entry.Entry.{Entry}
use Rattle.history_model.specs.Lines.{worded, number, line_of, store_lines, history_lines}
use Rattle.client_model.specs.Client.{Client}
use Rattle.client_model.specs.Lines.{shown}
use Rattle.ddp_messages.specs.Texts.{server_text}
use Rattle.session_model.specs.Items.{Item, id_of}
use Rattle.session_model.specs.Items as item
use Rattle.session_model.specs.State.{State, started, after}
use Rattle.session_model.specs.Moments.{Moment}
use Rattle.session_model.specs.Shown.{Calls, call_of}
use Rattle.session_model.specs.Out.{session_name, messages_of}
use Rattle.world_model.specs.declared.events.Act.{Act}
use Rattle.world_model.specs.declared.events.Act.TheVariants as act
use Rattle.world_model.specs.declared.events.Answer.{Answer}
use Rattle.world_model.specs.declared.events.Answer.TheVariants as answer
use Rattle.world_model.specs.declared.events.Event.{Event}
use Rattle.world_model.specs.declared.events.Event.TheVariants as event
use Rattle.world_model.specs.Store.{held_in, moments}
use Rattle.world_model.specs.Conn.{Conn}
use Rattle.world_model.specs.Asks.{Ask}
use Rattle.world_model.specs.Asks as ask
use Rattle.world_model.specs.World.{World, conn_of, can_open, done as done_in, outcome_by, can_ask_by}
use Rattle.world_model.specs.Events.{act_by, refusal_of}

-- ---- what a client has

-- the documents that the client of this name shows, by key; its subscriptions by id; its calls by number
abbrev pub show_values : List ℕ → Client → List Val
show_values name c = shown name c.documents.view c.subs c.calls

-- ---- what a session did

-- A printed line: a value, or a text that a session wrote, which is printed as it stands behind the word `out`.
pub data Line : Type 0 where
  value_line : Val → Line
  out_line : List ℕ → Line

abbrev pub line_text : Line → List ℕ
line_text (value_line v) = line_of v
line_text (out_line t) = codes "[\"out\"," ++ (t ++ codes "]")

abbrev pub item_value : Item → Val
item_value item.connect = worded (codes "connect") []
item_value item.fail = worded (codes "fail") []
item_value (item.ping id) = worded (codes "ping") []
item_value item.pong = worded (codes "pong") []
item_value (item.bad reason offending) = worded (codes "bad") []
item_value (item.subscribe s message cursors) = worded (codes "open") (number s ∷ text (id_of message) ∷ [])
item_value (item.same message) = worded (codes "same") (text (id_of message) ∷ [])
item_value (item.nosub message fault) = worded (codes "nosub") (text (id_of message) ∷ [])
item_value (item.close s message) = worded (codes "close") (number s ∷ [])
item_value (item.call k message seed) = worded (codes "call") (number k ∷ text (id_of message) ∷ [])
item_value (item.unknown message) = worded (codes "unknown") (text (id_of message) ∷ [])
item_value (item.load s place) = worded (codes "load") (number s ∷ number place ∷ [])
item_value (item.advance s count) = worded (codes "advance") (number s ∷ number count ∷ [])
item_value (item.refused k place) = worded (codes "refused") (number k ∷ number place ∷ [])
item_value (item.unblocked k) = worded (codes "unblocked") (number k ∷ [])
item_value (item.finished k place) = worded (codes "finished") (number k ∷ number place ∷ [])

-- the items in order, each with its texts behind it, sent or not
abbrev pub items_lines : List Moment → ℕ → Calls → State → List Item → List Line
items_lines C n past st [] = []
items_lines C n past st (i ∷ items) =
    value_line (item_value i) ∷ (map (λ m. out_line (server_text m)) (messages_of C n past st i) ++ items_lines C n (call_of C st i ∷ past) (after st i) items)

abbrev pub journal_lines : App → List Entry → Conn → List Line
journal_lines app history c = value_line (worded (codes "journal") (text (session_name c.number) ∷ [])) ∷ items_lines
    (moments app c.number history) c.number [] started c.items

-- the texts of a session among printed lines
abbrev pub texts_among : List Line → List (List ℕ)
texts_among [] = []
texts_among (value_line v ∷ ls) = texts_among ls
texts_among (out_line t ∷ ls) = t ∷ texts_among ls

-- ---- events

abbrev pub idle : Val
idle = worded (codes "idle") []

abbrev pub idle_unless : Bool → List Val
idle_unless true = []
idle_unless false = idle ∷ []

abbrev pub answer_values : Answer → List Val
answer_values answer.Done = []
answer_values answer.Idle = idle ∷ []
answer_values answer.JournalFull = worded (codes "journal full") [] ∷ []
answer_values answer.QueueFull = worded (codes "queue full") [] ∷ []

abbrev pub broken_values : Option ℕ → List Val
broken_values None = []
broken_values (Some n) = worded (codes "server sent") (number n ∷ []) ∷ []

abbrev pub broken_in : Option Conn → Option ℕ
broken_in None = None
broken_in (Some c) = c.client.broken

-- a text that the client refuses breaks it
abbrev pub told_values : World → List ℕ → Act → Answer → List Val
told_values w name act.Take answer.Done = broken_values (broken_in (conn_of (done_in (name, act.Take) w) name))
told_values w name a o = answer_values o

abbrev pub act_values : World → List ℕ → Option Act → List Val
act_values w name None = idle ∷ []
act_values w name (Some a) = told_values w name a (outcome_by w a (conn_of w name))

abbrev pub ask_values : World → List ℕ → Ask → List Val
ask_values w name a = idle_unless (can_ask_by a (conn_of w name))

abbrev pub refusal_values : Option ℕ → List Val
refusal_values None = []
refusal_values (Some code) = worded (codes "refused") (number code ∷ []) ∷ []

abbrev pub shown_values : List ℕ → Option Conn → List Val
shown_values name None = idle ∷ []
shown_values name (Some c) = show_values name c.client

abbrev pub journal_of : World → Option Conn → List Line
journal_of w None = value_line idle ∷ []
journal_of w (Some c) = journal_lines w.app w.history c

abbrev pub texts_of : List Val → List (List ℕ)
texts_of vs = map line_of vs

abbrev pub lines_of : World → Event → List (List ℕ)
lines_of w (event.Client name) = texts_of (idle_unless (can_open w name))
lines_of w (event.Sub name id publication params) = texts_of (ask_values w name (ask.subscribe id publication params))
lines_of w (event.Unsub name id) = texts_of (ask_values w name (ask.unsubscribe id))
lines_of w (event.Call name method params) = texts_of (ask_values w name (ask.call method params))
lines_of w (event.Raw name t) = texts_of (ask_values w name (ask.raw t))
lines_of w (event.Drop name) = texts_of (ask_values w name ask.drop)
lines_of w (event.Admin op) = texts_of (refusal_values (refusal_of w op))
lines_of w event.Settle = []
lines_of w (event.Show name) = texts_of (shown_values name (conn_of w name))
lines_of w (event.Journal name) = map line_text (journal_of w (conn_of w name))
lines_of w event.Store = store_lines (length w.history) (held_in w.app w.history).rows
lines_of w event.History = history_lines w.history
lines_of w (event.Do name a) = texts_of (act_values w name (act_by w name (event.Do name a)))
lines_of w (event.Step name k) = texts_of (act_values w name (act_by w name (event.Step name k)))
lines_of w (event.Learn name k place) = texts_of (act_values w name (act_by w name (event.Learn name k place)))
lines_of w (event.Load name id place) = texts_of (act_values w name (act_by w name (event.Load name id place)))
lines_of w (event.Advance name id count) = texts_of (act_values w name (act_by w name (event.Advance name id count)))
