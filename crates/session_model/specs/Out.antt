-- The messages of a journal, and their texts: with each item the difference of the merge before and after it, then the item's own messages, then
-- `updated` for each finished call
-- whose fence is open then (Meteor's DDP.md, "Managing data", "Remote procedure calls").
use Rattle.std.specs.Prelude.{ℕ, List, [], ◌∷◌, ◌++◌, length, map, Option, Some, None, option_map, decimal, codes}
use Rattle.map_model.specs.Differences.{Step}
use Rattle.value_model.specs.Val.{Val}
use Rattle.ejson_value.specs.declared.fault.Fault.{Fault}
use Rattle.ejson_value.specs.declared.key.Key.{Key}
use Rattle.ejson_value.specs.Messages.{saying}
use Rattle.ddp_messages.specs.ServerMessage.{ServerMessage}
use Rattle.ddp_messages.specs.ServerMessage as server
use Rattle.program_steps.specs.Runs.{Outcome, done, failed, End}
use Rattle.ddp_messages.specs.Texts.{server_text}
use Rattle.session_model.specs.Publication.{error_of}
use Rattle.session_model.specs.Items.{Item, id_of}
use Rattle.session_model.specs.Items as item
use Rattle.session_model.specs.Subscriptions.{ids_of}
use Rattle.session_model.specs.Methods.{id_at, all_told}
use Rattle.session_model.specs.State.{State, started, own_after, after}
use Rattle.session_model.specs.Moments.{Moment, end_at}
use Rattle.session_model.specs.Shown.{Calls, call_of, merge_of, difference}

-- the name of the session with this number
abbrev pub session_name : ℕ → List ℕ
session_name number = codes "S" ++ decimal number

-- ---- single messages

-- a message about a document
abbrev pub about : Key × Step (List ℕ) Val → ServerMessage
about m = server.about (saying m)

abbrev pub ready : List ℕ → ServerMessage
ready id = server.ready (id ∷ [])

abbrev pub updated : List ℕ → ServerMessage
updated id = server.updated (id ∷ [])

-- a `result` by how the run came out
abbrev pub result_by : Outcome → List ℕ → ServerMessage
result_by (done value) id = server.finished id None value
result_by (failed fault) id = server.finished id (Some fault) None

-- one that the run has not come to yet has none
abbrev pub results_by : Option End → List (List ℕ) → List ServerMessage
results_by None ids = []
results_by (Some end) ids = map (result_by end.outcome) ids

abbrev pub unknown_method : Fault
unknown_method = record { code = codes "404"; reason = codes "Method not found" }

abbrev pub history_full : Fault
history_full = record { code = codes "503"; reason = codes "History full" }

abbrev pub refused_with : Fault → List ℕ → List ServerMessage
refused_with fault id = result_by (failed fault) id ∷ updated id ∷ []

abbrev pub all_refused_with : Fault → List (List ℕ) → List ServerMessage
all_refused_with fault [] = []
all_refused_with fault (id ∷ ids) = refused_with fault id ++ all_refused_with fault ids

-- ---- of an item

-- what the item says itself
abbrev pub own_messages : List Moment → ℕ → State → Item → List ServerMessage
own_messages C number st item.connect = server.connected (session_name number) ∷ []
own_messages C number st item.fail = server.failed (codes "1") ∷ []
own_messages C number st (item.ping id) = server.pong id ∷ []
own_messages C number st (item.bad reason offending) = server.refused reason offending ∷ []
own_messages C number st (item.nosub message fault) = server.nosub (id_of message) (option_map error_of fault) ∷ []
own_messages C number st (item.load s place) = map ready (ids_of s st.subs)
own_messages C number st (item.close s message) = server.nosub (id_of message) None ∷ []
own_messages C number st (item.unknown message) = refused_with unknown_method (id_of message)
own_messages C number st (item.refused k place) = all_refused_with history_full (id_at k st.methods)
own_messages C number st (item.finished k place) = results_by (end_at C place k) (id_at k st.methods)
own_messages C number st i = []

-- the ids of the calls that are `updated` with the item
abbrev pub told_after : State → Item → List (List ℕ)
told_after st i = let own = own_after st i in all_told own.subs own.methods

-- all but those about documents
abbrev pub words_of : List Moment → ℕ → State → Item → List ServerMessage
words_of C number st i = own_messages C number st i ++ map updated (told_after st i)

-- the messages of an item, which follows a journal of these calls that left this state
abbrev pub messages_of : List Moment → ℕ → Calls → State → Item → List ServerMessage
messages_of C number past st i = map about (difference (merge_of past) (merge_of (call_of C st i ∷ past))) ++ words_of C number st i

-- ---- of a journal

abbrev pub out_from : List Moment → ℕ → Calls → State → List Item → List ServerMessage
out_from C number past st [] = []
out_from C number past st (i ∷ items) = messages_of C number past st i ++ out_from C number (call_of C st i ∷ past) (after st i) items

-- how many messages each item has
abbrev pub counts_from : List Moment → ℕ → Calls → State → List Item → List ℕ
counts_from C number past st [] = []
counts_from C number past st (i ∷ items) = length (messages_of C number past st i) ∷ counts_from C number (call_of C st i ∷ past) (after st i) items

-- the messages of a session's journal over these moments
abbrev pub out : List Moment → ℕ → List Item → List ServerMessage
out C number items = out_from C number [] started items

-- and their texts
abbrev pub out_texts : List Moment → ℕ → List Item → List (List ℕ)
out_texts C number items = map server_text (out C number items)
