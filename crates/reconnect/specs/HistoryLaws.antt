-- What is said and what waits is what was to be said; only the client's own texts and losses change that.
use Rattle.std.specs.Prelude.{◌≡◌, ℕ, List, [], ◌∷◌, ◌++◌, true, false, cond, not, ◌&&◌, ◌||◌, Option, Some, None, is_some, option_to_list, Result}
use Rattle.std.specs.Prelude.{Ok, Err, refl}
use Rattle.std.proofs.Common.{sym, ap, ◌∙◌}
use Rattle.std.proofs.lemmas.List.{append_assoc}
use Rattle.ddp_messages.specs.Answers.{client_answer, server_answer}
use Rattle.ddp_messages.specs.declared.fault.MsgFault.{MsgFault}
use Rattle.ddp_messages.specs.ClientMessage as client
use Rattle.ddp_messages.specs.ClientMessage.{ClientMessage}
use Rattle.ddp_messages.specs.ServerMessage as server
use Rattle.ddp_messages.specs.ServerMessage.{ServerMessage}
use Rattle.reconnect_model.specs.Revival.{Revival}
use Rattle.reconnect_model.specs.Saying.{asked, asked_by, first_of, behind_first}
use Rattle.reconnect_model.specs.Giving.{noted, settled, all_settled, gives, released_by, released, Heard, left_unsaid, updated_before, made_ready}
use Rattle.reconnect_model.specs.Giving.{revived, revived_then, revived_when, holds, passed, is_at_once, is_answered, text_refusal, heard_message}
use Rattle.reconnect_model.specs.Giving.{heard_unless, hears}
use Rattle.reconnect_model.specs.History.{History, Event, queued, heard, said, lost, revival_of, said_in, to_say}

-- ---- what a server sends changes nothing of what waits, and a text that no rule refuses breaks nothing

record Same (a b : Revival) : Type 0 where
  waiting : b.waiting ≡ a.waiting
  broken : b.broken ≡ a.broken

same_self : (r : Revival) → Same r r
same_self r = record { waiting = refl; broken = refl }

same_then : (a b c : Revival) → Same a b → Same b c → Same a c
same_then a b c one two = record { waiting = two.waiting ∙ one.waiting; broken = two.broken ∙ one.broken }

settled_same : (r : Revival) (m : ServerMessage) → Same r (settled r m)
settled_same r (server.nosub id fault) = record { waiting = refl; broken = refl }
settled_same r (server.finished id fault value) = record { waiting = refl; broken = refl }
settled_same r (server.updated ids) = record { waiting = refl; broken = refl }
settled_same r _ = record { waiting = refl; broken = refl }

all_settled-same : (r : Revival) (ms : List ServerMessage) → Same r (all_settled r ms)
all_settled-same r [] = same_self r
all_settled-same r (m ∷ ms) = same_then r (settled r m) (all_settled (settled r m) ms) (settled_same r m) (all_settled-same (settled r m) ms)

released_by-same : (before : List (List ℕ)) (r : Revival) (text : List ℕ) (answer : Result ServerMessage MsgFault) →
    Same r (released_by before r text answer).revival
released_by-same before r text (Ok m) = settled_same r m
released_by-same before r text (Err fault) = same_self r

released_same : (before : List (List ℕ)) (r : Revival) (held : List (List ℕ)) → Same r (released before r held).revival
released_same before r [] = same_self r
released_same before r (text ∷ held) =
    let next = (released_by before r text (server_answer text)).revival in
    same_then r next (released before next held).revival (released_by-same before r text (server_answer text)) (released_same before next held)

revived_same : (r : Revival) → Same r (revived r).revival
revived_same r =
    let left = all_settled (made_ready r) (left_unsaid r) in
    let before = updated_before r.calls in
    let same = same_then (made_ready r) left (released before left r.held).revival (all_settled-same (made_ready r) (left_unsaid r))
    (released_same before left r.held) in
    record { waiting = same.waiting; broken = same.broken }

passed_same : (r : Revival) (text : List ℕ) (m : ServerMessage) → Same r (passed r text m).revival
passed_same r text m =
    let same = settled_same r m in
    elim (r.is_revived || is_at_once r.is_known m)
    as (λ b. Same r (cond b (let h : Heard = record { revival = gives r m; texts = text ∷ [] } in h) (record { revival = holds r text m; texts = [] })).revival)
    [ true ↦ record { waiting = same.waiting; broken = same.broken } | false ↦ record { waiting = refl; broken = refl } ]

when_same : (h : Heard) → Same h.revival (revived_when h).revival
when_same h =
    elim (not h.revival.is_revived && is_answered h.revival)
    as (λ b. Same h.revival (cond b (revived_then h) h).revival)
    [ true ↦ revived_same h.revival | false ↦ same_self h.revival ]

message_same : (r : Revival) (text : List ℕ) (answer : Result ServerMessage MsgFault) → Same r (heard_message r text answer).revival
message_same r text (Ok m) =
    let h = passed (noted r m) text m in
    let same = same_then (noted r m) h.revival (revived_when h).revival (passed_same (noted r m) text m) (when_same h) in
    record { waiting = same.waiting; broken = same.broken }
message_same r text (Err fault) = same_self r

unless_waiting : (r : Revival) (text : List ℕ) (n : Option ℕ) → (heard_unless r text n).revival.waiting ≡ r.waiting
unless_waiting r text None = (message_same r text (server_answer text)).waiting
unless_waiting r text (Some n) = refl

hears_waiting : (r : Revival) (text : List ℕ) → (hears r text).revival.waiting ≡ r.waiting
hears_waiting r text =
    elim (is_some r.broken)
    as (λ b. (cond b (let h : Heard = record { revival = r; texts = [] } in h) (heard_unless r text (text_refusal r text))).revival.waiting ≡ r.waiting)
    [ true ↦ refl | false ↦ unless_waiting r text (text_refusal r text) ]

pub heard_unbroken : (r : Revival) (text : List ℕ) → (heard_unless r text None).revival.broken ≡ r.broken
heard_unbroken r text = (message_same r text (server_answer text)).broken

-- ---- what the client queues waits behind the rest

asked_waiting : (r : Revival) (text : List ℕ) (m : ClientMessage) → (asked r text m).waiting ≡ r.waiting
asked_waiting r text (client.sub id name params) = refl
asked_waiting r text (client.unsub id) = refl
asked_waiting r text (client.method id name params seed) = refl
asked_waiting r text _ = refl

asked_by-waiting : (r : Revival) (text : List ℕ) (answer : Result ClientMessage MsgFault) → (asked_by r text answer).waiting ≡ r.waiting
asked_by-waiting r text (Ok m) = asked_waiting r text m
asked_by-waiting r text (Err fault) = refl

first_and_rest : (texts : List (List ℕ)) → option_to_list (first_of texts) ++ behind_first texts ≡ texts
first_and_rest [] = refl
first_and_rest (text ∷ texts) = refl

pub said_and_waiting : (past : History) → said_in past ++ (revival_of past).waiting ≡ to_say past
said_and_waiting [] = refl
said_and_waiting (queued text ∷ past) =
    let r = revival_of past in
    ap (λ ws. said_in past ++ (ws ++ text ∷ [])) (asked_by-waiting r text (client_answer text))
    ∙ sym (append_assoc (said_in past) r.waiting (text ∷ [])) ∙ ap (λ ts. ts ++ text ∷ []) (said_and_waiting past)
said_and_waiting (heard text ∷ past) = ap (λ ws. said_in past ++ ws) (hears_waiting (revival_of past) text) ∙ said_and_waiting past
said_and_waiting (said ∷ past) =
    let ws = (revival_of past).waiting in
    append_assoc (said_in past) (option_to_list (first_of ws)) (behind_first ws) ∙ ap (λ ts. said_in past ++ ts) (first_and_rest ws) ∙ said_and_waiting past
said_and_waiting (lost ∷ past) = refl
