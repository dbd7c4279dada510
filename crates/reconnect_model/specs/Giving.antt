-- What a revived client makes of a text of its server, and which texts its client is given for it.
use Rattle.std.specs.Prelude.{ℕ, List, [], ◌∷◌, ◌++◌, map, filter, length, Bool, true, false, not, ◌&&◌, ◌||◌, ◌==◌, nat_lt, Option, Some, None}
use Rattle.std.specs.Prelude.{is_some, Result, Ok, Err, if◌then◌else◌}
use Rattle.std.specs.List.{list_any}
use Rattle.std.specs.Map.{keys_of}
use Rattle.std.specs.Set.{remove_key}
use Rattle.std.specs.BTreeMap.{is_at}
use Rattle.map_model.specs.Maps.{at, set}
use Rattle.map_model.specs.Differences.{Step, taken, diff}
use Rattle.value_model.specs.Val.{Val}
use Rattle.value_model.specs.Order.{text_cmp}
pub use Rattle.value_model.specs.Order.{same_value}
use Rattle.view_model.specs.Views.{refusal}
use Rattle.ejson_value.specs.declared.key.Key.{Key}
use Rattle.ejson_value.specs.Key.{key_cmp}
use Rattle.ejson_value.specs.Rows.{Rows}
use Rattle.ejson_value.specs.Messages.{said, saying}
use Rattle.ddp_messages.specs.Answers.{server_answer}
use Rattle.ddp_messages.specs.Texts.{server_text}
use Rattle.ddp_messages.specs.declared.fault.MsgFault.{MsgFault}
use Rattle.ddp_messages.specs.declared.fault.MsgFault.TheVariants.{Parse, BadRequest, Memory}
use Rattle.ddp_messages.specs.ServerMessage as server
use Rattle.ddp_messages.specs.ServerMessage.{ServerMessage}
use Rattle.client_model.specs.Taking.{max_server_text, early_refusal}
use Rattle.reconnect_model.specs.Revival.{Called, Lacking, Revival}
use Rattle.reconnect_model.specs.Saying.{in_order}

-- ---- the number of the first rule that refuses a text, if one does

-- afterwards: 4 for a second answer to `connect`, 5 to 7 for a message that doesn't fit what this session sent of its document
abbrev pub late : Rows → ServerMessage → Option ℕ
late copy (server.connected session) = Some 4
late copy (server.failed version) = Some 4
late copy (server.about m) = refusal (at key_cmp copy (said m).0) (said m).1
late copy _ = None

-- before the session's `connected`: 3 for what belongs to a session, 4 for a refused version where there was a session before
abbrev pub early : Bool → ServerMessage → Option ℕ
early is_known (server.failed version) = if is_known then Some 4 else None
early is_known m = early_refusal m

abbrev pub refused_by : Revival → ServerMessage → Option ℕ
refused_by r m = if r.is_connected then late r.copy m else early r.is_known m

-- 1 for a text that is no JSON object, 2 for a message not of its form
abbrev pub answer_refusal : Revival → Result ServerMessage MsgFault → Option ℕ
answer_refusal r (Ok m) = refused_by r m
answer_refusal r (Err Parse) = Some 1
answer_refusal r (Err (BadRequest name)) = Some 2
answer_refusal r (Err Memory) = Some 1

-- 1 for a text that is too long, too
abbrev pub text_refusal : Revival → List ℕ → Option ℕ
text_refusal r text = if nat_lt max_server_text (length text) then Some 1 else answer_refusal r (server_answer text)

-- ---- what the session sent

abbrev pub documents : Rows → ServerMessage → Rows
documents rows (server.about m) = set key_cmp rows (said m).0 (taken text_cmp (at key_cmp rows (said m).0) (said m).1)
documents rows _ = rows

-- whether the id is one of these
abbrev pub is_among : List (List ℕ) → List ℕ → Bool
is_among ids id = list_any (is_at (text_cmp id)) ids

-- without this id, without these ids
abbrev pub without : List ℕ → List (List ℕ) → List (List ℕ)
without id ids = remove_key (is_at (text_cmp id)) ids

abbrev pub without_all : List (List ℕ) → List (List ℕ) → List (List ℕ)
without_all [] ids = ids
without_all (id ∷ gone) ids = without_all gone (without id ids)

abbrev pub lacks : Lacking → ServerMessage → Lacking
lacks lacking (server.nosub id fault) = record lacking { subs = without id lacking.subs }
lacks lacking (server.ready ids) = record lacking { subs = without_all ids lacking.subs }
lacks lacking (server.finished id fault value) = record lacking { results = without id lacking.results }
lacks lacking (server.updated ids) = record lacking { updates = without_all ids lacking.updates }
lacks lacking _ = lacking

abbrev pub connects : ServerMessage → Bool
connects (server.connected session) = true
connects _ = false

-- what is known of the session once it sent the message: while its epoch is revived, the client is given its documents as they come
abbrev pub noted : Revival → ServerMessage → Revival
noted r m = record r {
  copy = documents r.copy m;
  given = if r.is_revived then documents r.given m else r.given;
  is_connected = r.is_connected || connects m;
  lacking = lacks r.lacking m;
}

-- ---- what the client was given

-- a method that has both its result and its `updated` is forgotten
abbrev pub answered : Called → Option Called
answered c = if c.is_updated then None else Some (record c { is_answered = true })

abbrev pub updated : Called → Option Called
updated c = if c.is_answered then None else Some (record c { is_updated = true })

abbrev pub changed_from : (Called → Option Called) → List ℕ → List (List ℕ × Called) → Option Called → List (List ℕ × Called)
changed_from f id calls None = calls
changed_from f id calls (Some c) = set text_cmp calls id (f c)

abbrev pub change_of : (Called → Option Called) → List ℕ → List (List ℕ × Called) → List (List ℕ × Called)
change_of f id calls = changed_from f id calls (at text_cmp calls id)

abbrev pub all_updated : List (List ℕ) → List (List ℕ × Called) → List (List ℕ × Called)
all_updated [] calls = calls
all_updated (id ∷ ids) calls = all_updated ids (change_of updated id calls)

-- what is wanted and owed once the client was given an answer
abbrev pub settled : Revival → ServerMessage → Revival
settled r (server.nosub id fault) = record r { subs = set text_cmp r.subs id None; ended = set text_cmp r.ended id None }
settled r (server.finished id fault value) = record r { calls = change_of answered id r.calls }
settled r (server.updated ids) = record r { calls = all_updated ids r.calls }
settled r _ = r

abbrev pub all_settled : Revival → List ServerMessage → Revival
all_settled r [] = r
all_settled r (m ∷ ms) = all_settled (settled r m) ms

-- once the client was given the message
abbrev pub gives : Revival → ServerMessage → Revival
gives r m = record (settled r m) { is_known = r.is_known || connects m }

-- ---- the reset

-- the text that says so of a document
abbrev pub step_text : Key × Step (List ℕ) Val → List ℕ
step_text step = server_text (server.about (saying step))

-- what leads from the documents that the client was given to those that the session sent, by key
abbrev pub differences : Rows → Rows → List (List ℕ)
differences given copy = map step_text (diff text_cmp same_value key_cmp given copy)

-- the methods with a result and no `updated`, in the order queued: the session that ran them is gone
abbrev pub half_done : List (List ℕ × Called) → List (List ℕ)
half_done calls = in_order (map (λ e. (e.1.place, e.0)) (filter (λ e. e.1.is_answered) calls))

-- the subscriptions whose `unsub` stands in an earlier epoch, by id: the session that was to end them is gone
abbrev pub half_ended : ℕ → List (List ℕ × ℕ) → List (List ℕ)
half_ended begun ended = keys_of (filter (λ e. nat_lt e.1 begun) ended)

-- what the sessions that are gone were to say
abbrev pub left_unsaid : Revival → List ServerMessage
left_unsaid r = map (λ id. server.updated (id ∷ [])) (half_done r.calls) ++ map (λ id. server.nosub id None) (half_ended r.begun r.ended)

-- the methods without a result whose `updated` the client was given
abbrev pub updated_before : List (List ℕ × Called) → List (List ℕ)
updated_before calls = keys_of (filter (λ e. e.1.is_updated) calls)

-- an `updated` for these methods, of those that its text named
abbrev pub updated_left : List ℕ → List (List ℕ) → List (List ℕ) → List (List ℕ)
updated_left text ids [] = []
updated_left text ids (id ∷ left) = (if length (id ∷ left) == length ids then text else server_text (server.updated (id ∷ left))) ∷ []

-- what the client is given for a held text: an `updated` leaves out the methods of which it was given one before
abbrev pub given_for : List (List ℕ) → List ℕ → ServerMessage → List (List ℕ)
given_for before text (server.updated ids) = updated_left text ids (filter (λ id. not (is_among before id)) ids)
given_for before text _ = text ∷ []

-- a revived client with the texts that its client is given
pub record Heard : Type 0 where
  pub revival : Revival
  pub texts : List (List ℕ)

abbrev pub released_by : List (List ℕ) → Revival → List ℕ → Result ServerMessage MsgFault → Heard
released_by before r text (Ok m) = record { revival = settled r m; texts = given_for before text m }
released_by before r text (Err fault) = record { revival = r; texts = [] }

-- the held texts, one after another
abbrev pub released : List (List ℕ) → Revival → List (List ℕ) → Heard
released before r [] = record { revival = r; texts = [] }
released before r (text ∷ held) =
    let first = released_by before r text (server_answer text) in
    let rest = released before first.revival held in
    record { revival = rest.revival; texts = first.texts ++ rest.texts }

-- the documents are the session's, and nothing is held any more
abbrev pub made_ready : Revival → Revival
made_ready r = record r { given = r.copy; is_revived = true; held = [] }

-- Given are, in this order: the difference of the documents, an `updated` for each method that has its result and not this, a `nosub`
-- for each subscription that was to end, and the held texts.
abbrev pub revived : Revival → Heard
revived r =
    let rest = released (updated_before r.calls) (all_settled (made_ready r) (left_unsaid r)) r.held in
    record {
      revival = rest.revival;
      texts = differences r.given r.copy ++ map server_text (left_unsaid r) ++ rest.texts;
    }

-- ---- a text

-- what is given at once, in any epoch: what is about the link, and the first `connected` there ever was
abbrev pub is_at_once : Bool → ServerMessage → Bool
is_at_once is_known (server.ping id) = true
is_at_once is_known (server.pong id) = true
is_at_once is_known (server.refused reason offending) = true
is_at_once is_known (server.failed version) = true
is_at_once is_known (server.connected session) = not is_known
is_at_once is_known _ = false

-- a text is held, but for data, which the copy has, and for a further `connected`
abbrev pub is_held : ServerMessage → Bool
is_held (server.connected session) = false
is_held (server.about m) = false
is_held _ = true

abbrev pub holds : Revival → List ℕ → ServerMessage → Revival
holds r text m = record r { held = if is_held m then r.held ++ text ∷ [] else r.held }

abbrev pub is_none_of : List (List ℕ) → Bool
is_none_of [] = true
is_none_of (id ∷ ids) = false

abbrev pub lacks_nothing : Lacking → Bool
lacks_nothing lacking = is_none_of lacking.subs && is_none_of lacking.results && is_none_of lacking.updates

-- whether the session has answered all that it was asked for again
abbrev pub is_answered : Revival → Bool
is_answered r = r.is_connected && lacks_nothing r.lacking

-- a message is given to the client, or held
abbrev pub passed : Revival → List ℕ → ServerMessage → Heard
passed r text m =
    if r.is_revived || is_at_once r.is_known m
    then record { revival = gives r m; texts = text ∷ [] }
    else record { revival = holds r text m; texts = [] }

-- the epoch is revived as soon as all is answered
abbrev pub revived_then : Heard → Heard
revived_then h = let rest = revived h.revival in record { revival = rest.revival; texts = h.texts ++ rest.texts }

abbrev pub revived_when : Heard → Heard
revived_when h = if not h.revival.is_revived && is_answered h.revival then revived_then h else h

abbrev pub heard_message : Revival → List ℕ → Result ServerMessage MsgFault → Heard
heard_message r text (Ok m) = revived_when (passed (noted r m) text m)
heard_message r text (Err fault) = record { revival = r; texts = [] }

-- a refused text breaks it, and changes nothing else
abbrev pub heard_unless : Revival → List ℕ → Option ℕ → Heard
heard_unless r text None = heard_message r text (server_answer text)
heard_unless r text (Some n) = record { revival = record r { broken = Some n }; texts = [] }

-- the session sent a text: a broken one takes none
abbrev pub hears : Revival → List ℕ → Heard
hears r text = if is_some r.broken then record { revival = r; texts = [] } else heard_unless r text (text_refusal r text)
