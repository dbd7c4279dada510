-- What a client makes of a text of the server, and when it refuses one. The first rule that holds decides (ours; Meteor's DDP.md,
-- "Managing Data", "Remote Procedure Calls", "Heartbeats").
use Rattle.std.specs.Prelude.{ℕ, zero, suc, List, [], ◌∷◌, ◌++◌, length, decimal, slice_get, Bool, true, false, not, ◌&&◌, nat_lt, Option, Some, None}
use Rattle.std.specs.Prelude.{is_some, option_and_then, Result, Ok, Err, if◌then◌else◌}
use Rattle.std.specs.List.{list_any, list_all}
use Rattle.map_model.specs.Maps.{at, set}
use Rattle.map_model.specs.Differences.{taken}
use Rattle.value_model.specs.Val.{Val, Entries}
use Rattle.value_model.specs.Order.{text_cmp}
use Rattle.value_model.specs.Size.{is_name}
use Rattle.view_model.specs.Views.{View, refusal, told, released}
use Rattle.ejson_value.specs.declared.fault.Fault.{Fault}
use Rattle.ejson_value.specs.declared.key.Key.{Key}
use Rattle.ejson_value.specs.Key.{key_cmp}
use Rattle.ejson_value.specs.Messages.{said}
use Rattle.program_steps.specs.Runs.{Outcome, done, failed}
use Rattle.ddp_messages.specs.Answers.{server_answer}
use Rattle.ddp_messages.specs.declared.fault.MsgFault.{MsgFault}
use Rattle.ddp_messages.specs.declared.fault.MsgFault.TheVariants.{Parse, BadRequest, Memory}
use Rattle.ddp_messages.specs.ClientMessage as client
use Rattle.ddp_messages.specs.ServerMessage as server
use Rattle.ddp_messages.specs.ServerMessage.{ServerMessage}
use Rattle.client_model.specs.declared.subs.SubState.{SubState}
use Rattle.client_model.specs.declared.subs.SubState.TheVariants as state
use Rattle.ddp_messages.specs.Texts.{client_text}
use Rattle.client_model.specs.Client.{Sub, Subs, Call, Client}

-- how many bytes a text may have that a client reads
abbrev pub max_server_text : ℕ
max_server_text = 4194304

-- ---- calls by id: a method's id is the number of its call in decimal digits

-- the number from 1 to the given one that is written so
abbrev pub number_of : ℕ → List ℕ → Option ℕ
number_of zero id = None
number_of (suc n) id = if is_name id (decimal (suc n)) then Some (suc n) else number_of n id

abbrev pub call_at : List Call → ℕ → Option Call
call_at calls zero = None
call_at calls (suc n) = slice_get calls n

abbrev pub call_of : List Call → List ℕ → Option Call
call_of calls id = option_and_then (call_at calls) (number_of (length calls) id)

abbrev pub behind : Option ℕ → List ℕ → List ℕ
behind None ns = ns
behind (Some n) ns = n ∷ ns

-- the numbers that are written so
abbrev pub numbers_of : ℕ → List (List ℕ) → List ℕ
numbers_of count [] = []
numbers_of count (id ∷ ids) = behind (number_of count id) (numbers_of count ids)

-- ---- refusals

-- before `connected` was taken: 3 for what belongs to a session
abbrev pub early_refusal : ServerMessage → Option ℕ
early_refusal (server.nosub id fault) = Some 3
early_refusal (server.ready subs) = Some 3
early_refusal (server.about m) = Some 3
early_refusal (server.finished id fault value) = Some 3
early_refusal (server.updated methods) = Some 3
early_refusal _ = None

-- 8 for a result of no call, or of one that has a result
abbrev pub result_refusal : Option Call → Option ℕ
result_refusal None = Some 8
result_refusal (Some call) = if is_some call.outcome then Some 8 else None

abbrev pub awaits_update : Option Call → Bool
awaits_update None = false
awaits_update (Some call) = not call.is_updated

abbrev pub are_distinct : List (List ℕ) → Bool
are_distinct [] = true
are_distinct (id ∷ ids) = not (list_any (is_name id) ids) && are_distinct ids

-- 9 for an `updated` of no call, of one that is updated, or of one call twice
abbrev pub updated_refusal : List Call → List (List ℕ) → Option ℕ
updated_refusal calls ids = if list_all (λ id. awaits_update (call_of calls id)) ids && are_distinct ids then None else Some 9

-- afterwards: 4 for a second answer to `connect`, 5 to 7 for a message that doesn't fit the server's copy of its document
abbrev pub late_refusal : Client → ServerMessage → Option ℕ
late_refusal c (server.connected session) = Some 4
late_refusal c (server.failed version) = Some 4
late_refusal c (server.about m) = refusal (at key_cmp c.documents.server (said m).0) (said m).1
late_refusal c (server.finished id fault value) = result_refusal (call_of c.calls id)
late_refusal c (server.updated methods) = updated_refusal c.calls methods
late_refusal c _ = None

abbrev pub message_refusal : Client → ServerMessage → Option ℕ
message_refusal c m = if is_some c.session then late_refusal c m else early_refusal m

-- ---- what a message changes

-- the session's name
abbrev pub session_in : Option (List ℕ) → ServerMessage → Option (List ℕ)
session_in session (server.connected name) = Some name
session_in session _ = session

-- whether the version was refused
abbrev pub failed_in : Bool → ServerMessage → Bool
failed_in was (server.failed version) = true
failed_in was _ = was

-- a `ping` is answered with its id
abbrev pub answers_in : ServerMessage → List (List ℕ)
answers_in (server.ping id) = client_text (client.pong id) ∷ []
answers_in _ = []

-- the server's copy takes a message about a document, and the view where no open call holds it; an `updated` ends its calls' simulations
abbrev pub documents_in : ℕ → View Key Entries → ServerMessage → View Key Entries
documents_in count documents (server.about m) = told key_cmp (said m).0 (taken text_cmp (at key_cmp documents.server (said m).0) (said m).1) documents
documents_in count documents (server.updated ids) = released key_cmp (numbers_of count ids) documents
documents_in count documents _ = documents

abbrev pub turned_from : Option Sub → SubState → List ℕ → Subs → Subs
turned_from None now id subs = subs
turned_from (Some before) now id subs = set text_cmp subs id (Some (record before { state = now }))

-- the subscription of this id in another state, where it was asked for
abbrev pub turned : SubState → List ℕ → Subs → Subs
turned now id subs = turned_from (at text_cmp subs id) now id subs

abbrev pub ended_by : Option Fault → SubState
ended_by None = state.Ended
ended_by (Some fault) = state.Refused fault.code

abbrev pub readied : List (List ℕ) → Subs → Subs
readied [] subs = subs
readied (id ∷ ids) subs = readied ids (turned state.Ready id subs)

abbrev pub subs_in : Subs → ServerMessage → Subs
subs_in subs (server.nosub id fault) = turned (ended_by fault) id subs
subs_in subs (server.ready ids) = readied ids subs
subs_in subs _ = subs

abbrev pub outcome_by : Option Fault → Option Val → Outcome
outcome_by None value = done value
outcome_by (Some fault) value = failed fault

abbrev pub call_changed : ℕ → (Call → Call) → List Call → List Call
call_changed place f [] = []
call_changed zero f (call ∷ calls) = f call ∷ calls
call_changed (suc place) f (call ∷ calls) = call ∷ call_changed place f calls

abbrev pub number_changed : ℕ → (Call → Call) → List Call → List Call
number_changed zero f calls = calls
number_changed (suc n) f calls = call_changed n f calls

-- the calls of these numbers are changed so
abbrev pub all_changed : List ℕ → (Call → Call) → List Call → List Call
all_changed [] f calls = calls
all_changed (n ∷ ns) f calls = all_changed ns f (number_changed n f calls)

abbrev pub with_outcome : Outcome → Call → Call
with_outcome outcome call = record { outcome = Some outcome; is_updated = call.is_updated }

abbrev pub with_update : Call → Call
with_update call = record { outcome = call.outcome; is_updated = true }

abbrev pub calls_in : List Call → ServerMessage → List Call
calls_in calls (server.finished id fault value) = all_changed (numbers_of (length calls) (id ∷ [])) (with_outcome (outcome_by fault value)) calls
calls_in calls (server.updated ids) = all_changed (numbers_of (length calls) ids) with_update calls
calls_in calls _ = calls

-- the client once it has taken a message
abbrev pub told_message : Client → ServerMessage → Client
told_message c m = record c {
  session = session_in c.session m;
  is_failed = failed_in c.is_failed m;
  waiting = c.waiting ++ answers_in m;
  documents = documents_in (length c.calls) c.documents m;
  subs = subs_in c.subs m;
  calls = calls_in c.calls m;
}

-- ---- a text

abbrev pub breaks : ℕ → Client → Client
breaks n c = record c { broken = Some n }

abbrev pub told_unless : Client → ServerMessage → Option ℕ → Client
told_unless c m None = told_message c m
told_unless c m (Some n) = breaks n c

-- 1 for a text that is no JSON object, 2 for a message not of its form
abbrev pub told_answer : Client → Result ServerMessage MsgFault → Client
told_answer c (Ok m) = told_unless c m (message_refusal c m)
told_answer c (Err Parse) = breaks 1 c
told_answer c (Err (BadRequest name)) = breaks 2 c
told_answer c (Err Memory) = breaks 1 c

-- 1 for a text that is too long, too
abbrev pub told_text : Client → List ℕ → Client
told_text c t = if nat_lt max_server_text (length t) then breaks 1 c else told_answer c (server_answer t)
