-- Laws: A client in a world: what it shows, and the server's copy that it has by the texts that it took.
-- These and those on the link to it are the texts that were sent.
use Rattle.std.specs.Prelude.{◌≡◌, ℕ, List, [], ◌∷◌, ◌++◌, length, true, false, cond, nat_lt, Option, Some, None, Result, Ok, Err, is_none, refl}
use Rattle.std.proofs.Common.{ap, sym, subst, ◌∙◌, append-nil}
use Rattle.std.proofs.lemmas.List.{append_assoc, map-append}
use Rattle.std.proofs.lemmas.Bool.{and_parts}
use Rattle.map_model.specs.Differences.{taken, all_taken}
use Rattle.value_model.specs.Val.{Entries}
use Rattle.value_model.specs.Order.{text_cmp}
use Rattle.view_model.specs.Views.{View}
use Rattle.ejson_value.specs.declared.key.Key.{Key}
use Rattle.ejson_value.specs.Key.{key_cmp}
use Rattle.ejson_value.specs.Rows.{Rows}
use Rattle.ddp_messages.specs.Answers.{server_answer}
use Rattle.ddp_messages.specs.declared.fault.MsgFault.{MsgFault}
use Rattle.ddp_messages.specs.declared.fault.MsgFault.TheVariants.{Parse, BadRequest, Memory}
use Rattle.ddp_messages.specs.ServerMessage.{ServerMessage}
use Rattle.ddp_messages.specs.ServerMessage as server
use Rattle.app_model.specs.App.{App}
use Rattle.client_model.specs.Client.{Client, new_client}
use Rattle.client_model.specs.Taking.{max_server_text, documents_in, told_message, message_refusal, breaks, told_unless, told_answer, told_text}
use Rattle.client_model.specs.Asking.{can_take}
use Rattle.client_model.specs.TakingLaws.{new_shown, texts_shown, called_shown}
use Rattle.world_model.specs.session_model.Texts.{or_unknown, message_in, messages_in}
use Rattle.world_model.specs.session_model.Data.{data_in, data_of}
use Rattle.session_journal_laws.specs.Taken.{data_of-append, all_taken-append}
use Rattle.world_model.specs.Conn.{Conn}
use Rattle.world_model.specs.Acts.{goes_up, sends, takes}
use Rattle.world_model.specs.program_model.Touched.{each_once}
use Rattle.world_model.specs.Asks.{Ask, stub_run, asked}
use Rattle.world_model.specs.Asks as ask
use Rattle.world_invariant_laws.specs.StubsLaws.{stub_sorted, stub_alone}
use Rattle.world_invariant_laws.specs.Heard.{HasClient, HasHeard, IsHeard}

-- ---- a text that breaks nothing is taken as its message

unless_is : (c : Client) (m : ServerMessage) (o : Option ℕ) → (told_unless c m o).broken ≡ None → told_unless c m o ≡ told_message c m
unless_is c m None e = refl
unless_is c m (Some n) e = cc e

answer_is : (c : Client) (r : Result ServerMessage MsgFault) → (told_answer c r).broken ≡ None → told_answer c r ≡ told_message c (or_unknown r)
answer_is c (Ok m) e = unless_is c m (message_refusal c m) e
answer_is c (Err Parse) e = cc e
answer_is c (Err (BadRequest name)) e = cc e
answer_is c (Err Memory) e = cc e

pub told_is : (c : Client) (t : List ℕ) → (told_text c t).broken ≡ None → told_text c t ≡ told_message c (message_in t)
told_is c t e =
    elim (nat_lt max_server_text (length t)) as
    (λ b. (cond b (breaks 1 c) (told_answer c (server_answer t))).broken ≡ None →
    cond b (breaks 1 c) (told_answer c (server_answer t)) ≡ told_message c (message_in t)) [
      | true ↦ λ e. cc e
      | false ↦ λ e. answer_is c (server_answer t) e
    ] e

server_in : (count : ℕ) (d : View Key Entries) (m : ServerMessage) → (documents_in count d m).server ≡ all_taken text_cmp key_cmp d.server (data_in m)
server_in count d (server.about m) = refl
server_in count d (server.updated ids) = refl
server_in count d m = refl

-- ---- what the client has

one_more : (taken : List (List ℕ)) (t : List ℕ) → data_of (messages_in (taken ++ t ∷ [])) ≡ data_of (messages_in taken) ++ data_in (message_in t)
one_more taken t = ap data_of (map-append message_in taken (t ∷ []))
    ∙ (data_of-append (messages_in taken) (message_in t ∷ []) ∙ ap (λ ds. data_of (messages_in taken) ++ ds) (append-nil (data_in (message_in t))))

heard_more : (client : Client) (sent : List (List ℕ)) (t : List ℕ) (ts : List (List ℕ)) → (told_text client t).broken ≡ None →
    IsHeard client sent (t ∷ ts) → IsHeard (told_text client t) sent ts
heard_more client sent t ts e h = record {
  taken = h.taken ++ t ∷ [];
  is = append_assoc h.taken (t ∷ []) ts ∙ h.is;
  server =
      ap (λ (c : Client). c.documents.server) (told_is client t e)
      ∙ (server_in (length client.calls) client.documents (message_in t)
      ∙ (ap (λ (rows : Rows). all_taken text_cmp key_cmp rows (data_in (message_in t))) h.server
      ∙ (sym (all_taken-append [] (data_of (messages_in h.taken)) (data_in (message_in t))) ∙ ap (all_taken text_cmp key_cmp []) (sym (one_more h.taken t)))));
}

is_none_is : (o : Option ℕ) → is_none o ≡ true → o ≡ None
is_none_is None e = refl
is_none_is (Some x) e = cc e

pub new_has : HasClient new_client [] []
new_has = record { shown = new_shown; heard = λ e. record { taken = []; is = refl; server = refl } }

-- ---- the acts

pub up_heard : (c : Conn) (ts : List (List ℕ)) → HasHeard c → HasHeard (goes_up c ts)
up_heard c [] p = p
up_heard c (t ∷ ts) p = record {
  shown = record { view = p.shown.view; awaited = p.shown.awaited };
  heard = λ e. let h = p.heard e in record { taken = h.taken; is = h.is; server = h.server };
}

pub send_heard : (c : Conn) (ts : List (List ℕ)) → HasHeard c → HasHeard (sends c ts)
send_heard c [] p = p
send_heard c (t ∷ ts) p = record {
  shown = p.shown;
  heard = λ e. let h = p.heard e in
      record { taken = h.taken; is = sym (append_assoc h.taken c.downward (t ∷ [])) ∙ ap (λ xs. xs ++ t ∷ []) h.is; server = h.server };
}

pub take_heard : (c : Conn) (ts : List (List ℕ)) → c.downward ≡ ts → can_take c.client ≡ true → HasHeard c → HasHeard (takes c ts)
take_heard c [] e can p = p
take_heard c (t ∷ ts) e can p = record {
  shown = texts_shown c.client (t ∷ []) p.shown;
  heard = λ none. heard_more c.client c.sent t ts none
      (subst (λ (xs : List (List ℕ)). IsHeard c.client c.sent xs) e (p.heard (is_none_is c.client.broken (and_parts _ (is_none c.client.broken) can).1)));
}

-- ---- what is asked of it

pub asked_heard : (app : App) (c : Conn) (a : Ask) → HasHeard c → HasHeard (asked app c a)
asked_heard app c (ask.subscribe id name params) p = record {
  shown = record { view = p.shown.view; awaited = p.shown.awaited };
  heard = λ e. let h = p.heard e in record { taken = h.taken; is = h.is; server = h.server };
}
asked_heard app c (ask.unsubscribe id) p = record {
  shown = record { view = p.shown.view; awaited = p.shown.awaited };
  heard = λ e. let h = p.heard e in record { taken = h.taken; is = h.is; server = h.server };
}
asked_heard app c (ask.call name params) p =
    let stub = stub_run app name params c.client in
    let sorted = p.shown.view.view in record {
      shown = called_shown c.client name params stub.rows (each_once stub.touched) (stub_sorted app name params c.client sorted)
          (stub_alone app name params c.client sorted) p.shown;
      heard = λ e. let h = p.heard e in record { taken = h.taken; is = h.is; server = h.server };
    }
asked_heard app c (ask.raw t) p = record {
  shown = record { view = p.shown.view; awaited = p.shown.awaited };
  heard = λ e. let h = p.heard e in record { taken = h.taken; is = h.is; server = h.server };
}
asked_heard app c ask.drop p = p
