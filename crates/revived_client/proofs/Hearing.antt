-- Texts that a client is given one by one.
use Rattle.std.specs.Prelude.{◌≡◌, ◌∷◌, [], ℕ, List, Bool, true, false, cond, not, ◌&&◌, ◌||◌, Option, Some, None, is_none, is_some, IsSome, Result, Ok, Err, refl}
use Rattle.std.proofs.Common.{ap, sym, ◌∙◌}
use Rattle.client_model.specs.Client.{Client}
use Rattle.client_model.specs.Taking.{told_text, breaks}
use Rattle.client_model.specs.TakingLaws.{text_breaks}
use Rattle.client_model.specs.Asking.{can_take}
use Rattle.client_core.specs.State.{Own}
use Rattle.client_core.specs.Taken.{Takes}
use Rattle.client_core.specs.declared.fault.TakeFault.{TakeFault}
use Rattle.client_core.specs.declared.fault.TakeFault.TheVariants as fault
use Rattle.console_run.specs.Speaking.{told}
use Rattle.ddp_messages.specs.Answers.{server_answer}
use Rattle.ddp_messages.specs.ServerMessage as server
use Rattle.ddp_messages.specs.ServerMessage.{ServerMessage}
use Rattle.ddp_messages.specs.declared.fault.MsgFault.{MsgFault}
use Rattle.reconnect_model.specs.Revival.{Revival}
use Rattle.reconnect_laws.specs.Given.{all_given}
use Rattle.reconnect_model.specs.Giving.{
  Heard,
  text_refusal,
  noted,
  gives,
  holds,
  settled,
  all_settled,
  left_unsaid,
  updated_before,
  made_ready,
  released_by,
  released,
  revived,
  revived_then,
  revived_when,
  is_at_once,
  is_answered,
  passed,
  heard_message,
  heard_unless,
  hears,
}
use Rattle.revived_client.specs.State.{RevivedState, quiet, all_queued, spoken}
use Rattle.reconnect_parts.specs.declared.fault.HeardFault.TheVariants as reviving
use Rattle.reconnect.specs.Hearing.{Hears}
use Rattle.revived_client.specs.Hearing.{given, refused_first, left_by, refusal, heard, AreFor, HearsBoth, HearsOn, stop_of}

-- ---- one text

-- a client that goes on behind a text
pub given_on : (text : List ℕ) (texts : List (List ℕ)) (own new : Own) → new ≡ told text own → can_take new.client ≡ true → given (text ∷ texts) own ≡ given texts new
given_on text texts own new is on =
    let next = told_text own.client text in
    let more : can_take next ≡ true = ap (λ (o : Own). can_take o.client) (sym is) ∙ on in
    ap (λ (b : Bool). record own { client = cond b (all_given texts next) next }) more ∙ ap (given texts) (sym is)

-- one that doesn't
pub given_to : (text : List ℕ) (texts : List (List ℕ)) (own new : Own) → new ≡ told text own → can_take new.client ≡ false → given (text ∷ texts) own ≡ new
given_to text texts own new is off =
    let next = told_text own.client text in
    let more : can_take next ≡ false = ap (λ (o : Own). can_take o.client) (sym is) ∙ off in
    ap (λ (b : Bool). record own { client = cond b (all_given texts next) next }) more ∙ sym is

pub takes_on : (c : Client) → c.is_failed ≡ false → c.broken ≡ None → can_take c ≡ true
takes_on c going whole = ap (λ b. not b && is_none c.broken) going ∙ ap (λ o. is_none o) whole

pub failed_off : (c : Client) → c.is_failed ≡ true → can_take c ≡ false
failed_off c failed = ap (λ b. not b && is_none c.broken) failed

pub broken_off : (c : Client) (n : ℕ) → c.broken ≡ Some n → can_take c ≡ false
broken_off c n broken = ap (λ o. not c.is_failed && is_none o) broken ∙ off (not c.is_failed)
  where
    off : (b : Bool) → (b && false) ≡ false
    off true = refl
    off false = refl

-- a text that was refused breaks it
pub told_breaks : (text : List ℕ) (old new : Own) (n : ℕ) → can_take old.client ≡ true → Takes {X = Unit {0}} text old new (Err (fault.ServerSent n)) → old.client.broken ≡ None → new ≡ told text old
told_breaks text old new n on d whole = d.2 ∙ ap (λ c. record old { client = c }) (sym (text_breaks old.client text n d.1 whole))

pub going_whole : (c : Client) → can_take c ≡ true → c.broken ≡ None
going_whole c on = by c.is_failed c.broken on
  where
    by : (b : Bool) (o : Option ℕ) → (not b && is_none o) ≡ true → o ≡ None
    by b None e = refl
    by true (Some n) e = cc e
    by false (Some n) e = cc e

pub going_on : (c : Client) → can_take c ≡ true → c.is_failed ≡ false
going_on c on = by c.is_failed c.broken on
  where
    by : (b : Bool) (o : Option ℕ) → (not b && is_none o) ≡ true → b ≡ false
    by false o e = refl
    by true o e = cc e

-- ---- what the reviver makes of a text, where it refused none before

pub hears_taken : (r : Revival) (text : List ℕ) → r.broken ≡ None → text_refusal r text ≡ None → hears r text ≡ heard_unless r text None
hears_taken r text whole none =
    ap (λ (b : Bool). cond b (let h : Heard = record { revival = r; texts = [] } in h) (heard_unless r text (text_refusal r text))) (ap (λ o. is_some o) whole)
    ∙ ap (heard_unless r text) none

pub hears_refused : (r : Revival) (text : List ℕ) (n : ℕ) → r.broken ≡ None → text_refusal r text ≡ Some n → hears r text ≡ heard_unless r text (Some n)
hears_refused r text n whole some =
    ap (λ (b : Bool). cond b (let h : Heard = record { revival = r; texts = [] } in h) (heard_unless r text (text_refusal r text))) (ap (λ o. is_some o) whole)
    ∙ ap (heard_unless r text) some

-- ---- a text that isn't refused leaves what was

settled_whole : (r : Revival) (m : ServerMessage) → (settled r m).broken ≡ r.broken
settled_whole r (server.nosub id fault) = refl
settled_whole r (server.finished id fault value) = refl
settled_whole r (server.updated ids) = refl
settled_whole r _ = refl

all_settled-whole : (r : Revival) (ms : List ServerMessage) → (all_settled r ms).broken ≡ r.broken
all_settled-whole r [] = refl
all_settled-whole r (m ∷ ms) = all_settled-whole (settled r m) ms ∙ settled_whole r m

released_by-whole : (before : List (List ℕ)) (r : Revival) (text : List ℕ) (answer : Result ServerMessage MsgFault) → (released_by before r text answer).revival.broken ≡ r.broken
released_by-whole before r text (Ok m) = settled_whole r m
released_by-whole before r text (Err fault) = refl

released_whole : (before : List (List ℕ)) (r : Revival) (held : List (List ℕ)) → (released before r held).revival.broken ≡ r.broken
released_whole before r [] = refl
released_whole before r (text ∷ held) =
    released_whole before (released_by before r text (server_answer text)).revival held ∙ released_by-whole before r text (server_answer text)

revived_whole : (r : Revival) → (revived r).revival.broken ≡ r.broken
revived_whole r =
    released_whole (updated_before r.calls) (all_settled (made_ready r) (left_unsaid r)) r.held ∙ all_settled-whole (made_ready r) (left_unsaid r)

passed_whole : (r : Revival) (text : List ℕ) (m : ServerMessage) → (passed r text m).revival.broken ≡ r.broken
passed_whole r text m =
    elim (r.is_revived || is_at_once r.is_known m)
    as (λ b. (cond b (let h : Heard = record { revival = gives r m; texts = text ∷ [] } in h) (record { revival = holds r text m; texts = [] })).revival.broken ≡ r.broken)
    [ true ↦ settled_whole r m | false ↦ refl ]

when_whole : (h : Heard) → (revived_when h).revival.broken ≡ h.revival.broken
when_whole h =
    elim (not h.revival.is_revived && is_answered h.revival) as (λ b. (cond b (revived_then h) h).revival.broken ≡ h.revival.broken)
    [ true ↦ revived_whole h.revival | false ↦ refl ]

pub message_whole : (r : Revival) (text : List ℕ) (answer : Result ServerMessage MsgFault) → (heard_message r text answer).revival.broken ≡ r.broken
message_whole r text (Ok m) = when_whole (passed (noted r m) text m) ∙ passed_whole (noted r m) text m
message_whole r text (Err fault) = refl

-- ---- what the client is to be given

pub for_taken : (old new : Revival) (text : List ℕ) (texts : List (List ℕ)) → Hears text old new (Ok texts) → AreFor text old new (Ok texts)
for_taken old new text texts w = (
  w.2,
  w.3,
  ap (λ (r : Revival). r.broken) w.2 ∙ (ap (λ (h : Heard). h.revival.broken) (hears_taken old text w.0 w.1) ∙ (message_whole old text (server_answer text) ∙ w.0)),
)

pub for_refused : (old new : Revival) (text : List ℕ) (n : ℕ) → Hears text old new (Err (reviving.ServerSent n)) → AreFor text old new (Err (fault.ServerSent n))
for_refused old new text n w =
    let is : hears old text ≡ heard_unless old text (Some n) = hears_refused old text n w.0 w.1 in
    (w.2 ∙ sym (ap (λ (h : Heard). h.revival) is), ap (λ (h : Heard). h.texts) is, ap (λ (r : Revival). r.broken) w.2)

pub not_idle : (old new : Revival) (text : List ℕ) → old.broken ≡ None → Hears text old new (Err reviving.Idle) → ⊥
not_idle old new text whole w = no old.broken whole w.0
  where
    no : (o : Option ℕ) → o ≡ None → IsSome o → ⊥
    no None e there = cc there
    no (Some n) e there = cc e
