-- Once its epoch is revived, a client was given the documents that the session sent: whatever it queues, hears and loses.
use Rattle.std.specs.Prelude.{◌≡◌, ℕ, List, [], ◌∷◌, true, false, cond, not, ◌&&◌, ◌||◌, Option, Some, None, is_some, Result, Ok, Err, refl}
use Rattle.std.proofs.Common.{sym, ap, ◌∙◌, true≢false}
use Rattle.ddp_messages.specs.Answers.{client_answer, server_answer}
use Rattle.ddp_messages.specs.declared.fault.MsgFault.{MsgFault}
use Rattle.ddp_messages.specs.ClientMessage as client
use Rattle.ddp_messages.specs.ClientMessage.{ClientMessage}
use Rattle.ddp_messages.specs.ServerMessage as server
use Rattle.ddp_messages.specs.ServerMessage.{ServerMessage}
use Rattle.reconnect_model.specs.Revival.{Revival}
use Rattle.reconnect_model.specs.Saying.{asked, asked_by, said_too, queues, loses}
use Rattle.reconnect_model.specs.Giving.{documents, noted, settled, all_settled, gives, released_by, released, Heard, left_unsaid, updated_before}
use Rattle.reconnect_model.specs.Giving.{made_ready, revived, revived_then, revived_when, holds, passed, is_at_once, is_answered, text_refusal}
use Rattle.reconnect_model.specs.Giving.{heard_message, heard_unless, hears}

-- the documents given are those that the present session sent
abbrev pub IsShown : Revival → Type 0
IsShown r = r.is_revived ≡ true → r.given ≡ r.copy

-- what is known of documents is the same
pub record SameDocuments (a b : Revival) : Type 0 where
  pub given : b.given ≡ a.given
  pub copy : b.copy ≡ a.copy
  pub revived : b.is_revived ≡ a.is_revived

same_self : (r : Revival) → SameDocuments r r
same_self r = record { given = refl; copy = refl; revived = refl }

same_then : (a b c : Revival) → SameDocuments a b → SameDocuments b c → SameDocuments a c
same_then a b c one two = record { given = two.given ∙ one.given; copy = two.copy ∙ one.copy; revived = two.revived ∙ one.revived }

shown_same : (a b : Revival) → SameDocuments a b → IsShown a → IsShown b
shown_same a b same w revived = same.given ∙ w (sym same.revived ∙ revived) ∙ sym same.copy

-- ---- what is said

asked_same : (r : Revival) (text : List ℕ) (m : ClientMessage) → SameDocuments r (asked r text m)
asked_same r text (client.sub id name params) = record { given = refl; copy = refl; revived = refl }
asked_same r text (client.unsub id) = record { given = refl; copy = refl; revived = refl }
asked_same r text (client.method id name params seed) = record { given = refl; copy = refl; revived = refl }
asked_same r text _ = record { given = refl; copy = refl; revived = refl }

asked_by-same : (r : Revival) (text : List ℕ) (answer : Result ClientMessage MsgFault) → SameDocuments r (said_too (asked_by r text answer) text)
asked_by-same r text (Ok m) = let same = asked_same r text m in record { given = same.given; copy = same.copy; revived = same.revived }
asked_by-same r text (Err fault) = record { given = refl; copy = refl; revived = refl }

pub queues-shown : (r : Revival) (text : List ℕ) → IsShown r → IsShown (queues r text)
queues-shown r text w = shown_same r (queues r text) (asked_by-same r text (client_answer text)) w

pub loses-shown : (r : Revival) → IsShown (loses r)
loses-shown r revived = absurd (true≢false (sym revived))

-- ---- what is heard

settled_same : (r : Revival) (m : ServerMessage) → SameDocuments r (settled r m)
settled_same r (server.nosub id fault) = record { given = refl; copy = refl; revived = refl }
settled_same r (server.finished id fault value) = record { given = refl; copy = refl; revived = refl }
settled_same r (server.updated ids) = record { given = refl; copy = refl; revived = refl }
settled_same r _ = record { given = refl; copy = refl; revived = refl }

all_settled-same : (r : Revival) (ms : List ServerMessage) → SameDocuments r (all_settled r ms)
all_settled-same r [] = same_self r
all_settled-same r (m ∷ ms) = same_then r (settled r m) (all_settled (settled r m) ms) (settled_same r m) (all_settled-same (settled r m) ms)

released_by-same : (before : List (List ℕ)) (r : Revival) (text : List ℕ) (answer : Result ServerMessage MsgFault) →
    SameDocuments r (released_by before r text answer).revival
released_by-same before r text (Ok m) = settled_same r m
released_by-same before r text (Err fault) = same_self r

released_same : (before : List (List ℕ)) (r : Revival) (held : List (List ℕ)) → SameDocuments r (released before r held).revival
released_same before r [] = same_self r
released_same before r (text ∷ held) =
    let next = (released_by before r text (server_answer text)).revival in
    same_then r next (released before next held).revival (released_by-same before r text (server_answer text)) (released_same before next held)

pub revived_shown : (r : Revival) → IsShown (revived r).revival
revived_shown r revived =
    let ready = made_ready r in
    let left = all_settled ready (left_unsaid r) in
    let before = updated_before r.calls in
    let same = same_then ready left (released before left r.held).revival (all_settled-same ready (left_unsaid r)) (released_same before left r.held) in
    same.given ∙ sym same.copy

noted_shown : (r : Revival) (m : ServerMessage) → IsShown r → IsShown (noted r m)
noted_shown r m w revived = ap (λ b. cond b (documents r.given m) r.given) revived ∙ ap (λ rows. documents rows m) (w revived)

passed_shown : (r : Revival) (text : List ℕ) (m : ServerMessage) → IsShown r → IsShown (passed r text m).revival
passed_shown r text m w =
    elim (r.is_revived || is_at_once r.is_known m)
    as (λ b. IsShown
    (cond b (let h : Heard = record { revival = gives r m; texts = text ∷ [] } in h) (record { revival = holds r text m; texts = [] })).revival) [
      | true ↦ shown_same r (settled r m) (settled_same r m) w
      | false ↦ w
    ]

when_shown : (h : Heard) → IsShown h.revival → IsShown (revived_when h).revival
when_shown h w =
    elim (not h.revival.is_revived && is_answered h.revival)
    as (λ b. IsShown (cond b (revived_then h) h).revival)
    [ true ↦ revived_shown h.revival | false ↦ w ]

message_shown : (r : Revival) (text : List ℕ) (answer : Result ServerMessage MsgFault) → IsShown r → IsShown (heard_message r text answer).revival
message_shown r text (Ok m) w = when_shown (passed (noted r m) text m) (passed_shown (noted r m) text m (noted_shown r m w))
message_shown r text (Err fault) w = w

unless_shown : (r : Revival) (text : List ℕ) (n : Option ℕ) → IsShown r → IsShown (heard_unless r text n).revival
unless_shown r text None w = message_shown r text (server_answer text) w
unless_shown r text (Some n) w = w

pub hears-shown : (r : Revival) (text : List ℕ) → IsShown r → IsShown (hears r text).revival
hears-shown r text w =
    elim (is_some r.broken) as
    (λ b. IsShown (cond b (let h : Heard = record { revival = r; texts = [] } in h) (heard_unless r text (text_refusal r text))).revival) [
      | true ↦ w
      | false ↦ unless_shown r text (text_refusal r text) w
    ]
