-- While its epoch is revived, a client that is given the texts of a revival has the documents that the present session sent.
use Rattle.std.specs.Prelude.{◌≡◌, ℕ, length, List, [], ◌∷◌, Bool, true, false, cond, not, ◌&&◌, nat_lt, Option, Some, None, is_none, Result, Ok, Err, refl}
use Rattle.std.proofs.Common.{ap, sym, subst, ◌∙◌, true≢false}
use Rattle.value_model.specs.Val.{Entries}
use Rattle.view_model.specs.Views.{View}
use Rattle.ejson_value.specs.declared.key.Key.{Key}
use Rattle.ddp_messages.specs.Answers.{server_answer}
use Rattle.ddp_messages.specs.declared.fault.MsgFault.{MsgFault}
use Rattle.ddp_messages.specs.declared.fault.MsgFault.TheVariants.{Parse, BadRequest, Memory}
use Rattle.ddp_messages.specs.ServerMessage.{ServerMessage}
use Rattle.ddp_messages.specs.ServerMessage as server
use Rattle.client_model.specs.Client.{Client, new_client}
use Rattle.client_model.specs.Taking.{max_server_text, message_refusal, documents_in, breaks, told_unless, told_answer, told_text}
use Rattle.client_model.specs.Asking.{can_take}
use Rattle.reconnect_model.specs.Revival.{Revival, new_revival}
use Rattle.reconnect_model.specs.Saying.{queues, says, loses}
use Rattle.reconnect_model.specs.Giving.{documents, hears}
use Rattle.reconnect_model.specs.RevivalLaws.{queues-shown, loses-shown, hears-shown}
use Rattle.reconnect_laws.specs.Given.{all_given, documents_by, all_documents}
use Rattle.reconnect_laws.specs.Kept.{is_refusal, refuses, GoOn, IsFaithful}
use Rattle.reconnect_laws.specs.KeptLaws.{hears_tells, new_kept, queues_kept, queues_given, says_kept, loses_kept}

-- ---- one text

documents_server : (count : ℕ) (d : View Key Entries) (m : ServerMessage) → (documents_in count d m).server ≡ documents d.server m
documents_server count d (server.about m) = refl
documents_server count d (server.updated ids) = refl
documents_server count d _ = refl

unless_server : (c : Client) (m : ServerMessage) (n : Option ℕ) → (told_unless c m n).broken ≡ None →
    (told_unless c m n).documents.server ≡ documents c.documents.server m
unless_server c m None whole = documents_server (length c.calls) c.documents m
unless_server c m (Some n) whole = absurd (cc whole)

answer_server : (c : Client) (r : Result ServerMessage MsgFault) → (told_answer c r).broken ≡ None →
    (told_answer c r).documents.server ≡ documents_by c.documents.server r
answer_server c (Ok m) whole = unless_server c m (message_refusal c m) whole
answer_server c (Err Parse) whole = refl
answer_server c (Err (BadRequest name)) whole = refl
answer_server c (Err Memory) whole = refl

-- a text that breaks nothing makes of the documents what its message does
told_server : (c : Client) (text : List ℕ) → (told_text c text).broken ≡ None →
    (told_text c text).documents.server ≡ documents_by c.documents.server (server_answer text)
told_server c text whole =
    elim (nat_lt max_server_text (length text))
    as (λ b. (cond b (breaks 1 c) (told_answer c (server_answer text))).broken ≡ None →
    (cond b (breaks 1 c) (told_answer c (server_answer text))).documents.server ≡ documents_by c.documents.server (server_answer text))
    [ true ↦ λ e. absurd (cc e) | false ↦ λ e. answer_server c (server_answer text) e ] whole

failed_same : (c : Client) (m : ServerMessage) → c.is_failed ≡ false → is_refusal m ≡ false → (told_unless c m None).is_failed ≡ false
failed_same c (server.failed version) going on = absurd (true≢false on)
failed_same c _ going on = going

unless_goes : (c : Client) (m : ServerMessage) (n : Option ℕ) → c.is_failed ≡ false → is_refusal m ≡ false → (told_unless c m n).is_failed ≡ false
unless_goes c m None going on = failed_same c m going on
unless_goes c m (Some n) going on = going

answer_goes : (c : Client) (r : Result ServerMessage MsgFault) → c.is_failed ≡ false → refuses r ≡ false → (told_answer c r).is_failed ≡ false
answer_goes c (Ok m) going on = unless_goes c m (message_refusal c m) going on
answer_goes c (Err Parse) going on = going
answer_goes c (Err (BadRequest name)) going on = going
answer_goes c (Err Memory) going on = going

text_goes : (c : Client) (text : List ℕ) → c.is_failed ≡ false → refuses (server_answer text) ≡ false → (told_text c text).is_failed ≡ false
text_goes c text going on =
    elim (nat_lt max_server_text (length text)) as (λ b. (cond b (breaks 1 c) (told_answer c (server_answer text))).is_failed ≡ false)
    [ true ↦ going | false ↦ answer_goes c (server_answer text) going on ]

-- ---- a client that takes texts

takes_on : (c : Client) → c.is_failed ≡ false → c.broken ≡ None → can_take c ≡ true
takes_on c going whole = ap (λ b. not b && is_none c.broken) going ∙ ap (λ o. is_none o) whole

going : (failed : Bool) (broken : Option ℕ) → (not failed && is_none broken) ≡ true → failed ≡ false
going true broken e = absurd (true≢false (sym e))
going false broken e = refl

whole : (failed : Bool) (broken : Option ℕ) → (not failed && is_none broken) ≡ true → broken ≡ None
whole failed None e = refl
whole true (Some n) e = absurd (true≢false (sym e))
whole false (Some n) e = absurd (true≢false (sym e))

given_server : (c : Client) (texts : List (List ℕ)) → can_take c ≡ true → GoOn texts → (all_given texts c).broken ≡ None →
    (all_given texts c).documents.server ≡ all_documents c.documents.server texts
given_server c [] on goes w = refl
given_server c (text ∷ []) on goes w =
    let next = told_text c text in
    elim (can_take next)
    as (λ b. (cond b next next).broken ≡ None → (cond b next next).documents.server ≡ documents_by c.documents.server (server_answer text))
    [ true ↦ λ e. told_server c text e | false ↦ λ e. told_server c text e ] w
given_server c (text ∷ second ∷ texts) on goes w =
    let next = told_text c text in
    let rows = documents_by c.documents.server (server_answer text) in
    let rest = given_server next (second ∷ texts) in
    elim (can_take next)
    as (λ b. can_take next ≡ b → (cond b (all_given (second ∷ texts) next) next).broken ≡ None →
    (cond b (all_given (second ∷ texts) next) next).documents.server ≡ all_documents rows (second ∷ texts)) [
      | true ↦ λ t e. rest t goes.1 e ∙ ap (λ now. all_documents now (second ∷ texts)) (told_server c text (whole next.is_failed next.broken t))
      | false ↦ λ t e.
          absurd (true≢false (sym (takes_on next (text_goes c text (going c.is_failed c.broken on) goes.0) e) ∙ t))
    ] refl w

-- ---- whatever happens

pub faithful_new : IsFaithful new_client new_revival
faithful_new = record { server = refl; kept = new_kept; shown = λ revived. refl }

-- another client with the same documents
pub faithful_as : (c d : Client) (r : Revival) → d.documents.server ≡ c.documents.server → IsFaithful c r → IsFaithful d r
faithful_as c d r same w = record { server = same ∙ w.server; kept = w.kept; shown = w.shown }

pub faithful_queues : (c : Client) (r : Revival) (text : List ℕ) → IsFaithful c r → IsFaithful c (queues r text)
faithful_queues c r text w = record {
  server = w.server ∙ sym (queues_given r text);
  kept = queues_kept r text w.kept;
  shown = queues-shown r text w.shown;
}

pub faithful_says : (c : Client) (r : Revival) → IsFaithful c r → IsFaithful c (says r)
faithful_says c r w = record { server = w.server; kept = says_kept r w.kept; shown = w.shown }

pub faithful_loses : (c : Client) (r : Revival) → IsFaithful c r → IsFaithful c (loses r)
faithful_loses c r w = record { server = w.server; kept = loses_kept r w.kept; shown = loses-shown r }

pub faithful_hears : (c : Client) (r : Revival) (text : List ℕ) → can_take c ≡ true → (all_given (hears r text).texts c).broken ≡ None → IsFaithful c r →
    IsFaithful (all_given (hears r text).texts c) (hears r text).revival
faithful_hears c r text on w f =
    let t = hears_tells r text f.kept in
    record {
      server = given_server c (hears r text).texts on t.goes w ∙ (ap (λ rows. all_documents rows (hears r text).texts) f.server ∙ t.says);
      kept = t.kept;
      shown = hears-shown r text f.shown;
    }

pub has_what_was_sent : (c : Client) (r : Revival) → IsFaithful c r → r.is_revived ≡ true → c.documents.server ≡ r.copy
has_what_was_sent c r w revived = w.server ∙ w.shown revived
