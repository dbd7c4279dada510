-- What a client shows, whatever it takes and asks for.
use Rattle.std.specs.Prelude.{◌≡◌, ◌⊎◌, ℕ, suc, List, [], ◌∷◌, length, Bool, true, false, cond, ◌||◌, nat_lt, Option, Some, None, Result, Ok, Err}
use Rattle.std.specs.Prelude.{unwrap_or, refl}
use Rattle.std.specs.List.{list_any, list_all}
use Rattle.std.specs.Ordering.{eq_by_cmp}
use Rattle.std.proofs.Common.{sym, ap, ◌∙◌, true≢false, inl, inr}
use Rattle.map_model.specs.Maps.{at, IsSorted}
use Rattle.map_model.specs.MapLaws.{same_maps, sorted-nil, eq_by_cmp-self}
use Rattle.map_model.specs.Differences.{taken}
use Rattle.value_model.specs.Val.{Val, Entries}
use Rattle.value_model.specs.Order.{text_cmp}
use Rattle.view_model.specs.Pending.{is_among, holders}
use Rattle.view_model.specs.PendingLaws.{number_order}
use Rattle.view_model.specs.Views.{View, IsView}
use Rattle.view_model.specs.ViewLaws.{no_documents-view, told_view, released_view, simulated_view, view_is_server}
use Rattle.ejson_value.specs.declared.key.Key.{Key}
use Rattle.ejson_value.specs.Key.{key_cmp, key_order}
use Rattle.ejson_value.specs.Rows.{Rows}
use Rattle.ejson_value.specs.Messages.{said}
use Rattle.ddp_messages.specs.Answers.{server_answer}
use Rattle.ddp_messages.specs.declared.fault.MsgFault.{MsgFault}
use Rattle.ddp_messages.specs.declared.fault.MsgFault.TheVariants.{Parse, BadRequest, Memory}
use Rattle.ddp_messages.specs.ServerMessage as server
use Rattle.ddp_messages.specs.ServerMessage.{ServerMessage}
use Rattle.client_model.specs.Client.{Call, Client, new_client}
use Rattle.client_model.specs.Taking.{max_server_text, numbers_of, awaits_update, call_at, outcome_by, with_outcome, with_update, documents_in}
use Rattle.client_model.specs.Taking.{calls_in, told_message, message_refusal, breaks, told_unless, told_answer, told_text}
use Rattle.client_model.specs.Asking.{called}
use Rattle.client_model.specs.Showing.{IsShown, IsHeldOn, all_told}
use Rattle.client_model.specs.HeldLaws.{updated_once, holds_too, touched_held, holds_on}
use Rattle.client_model.specs.CallLaws.{still_awaits, others_stay, new_awaits, none_awaits, holds_then, holds_still}

pub new_shown : IsShown new_client
new_shown = record { view = no_documents-view key_cmp; awaited = λ k n e. cc e }

-- ---- a text

documents_view : (count : ℕ) (d : View Key Entries) (m : ServerMessage) → IsView key_cmp d → IsView key_cmp (documents_in count d m)
documents_view count d (server.about m) w = told_view key_order (said m).0 (taken text_cmp (at key_cmp d.server (said m).0) (said m).1) d w
documents_view count d (server.updated ids) w = released_view key_order (numbers_of count ids) d w
documents_view count d _ w = w

still_awaited : (c : Client) (m : ServerMessage) → IsShown c → (k : Key) (n : ℕ) →
    is_among (holders key_cmp (documents_in (length c.calls) c.documents m).pending k) n ≡ true → awaits_update (call_at (calls_in c.calls m) n) ≡ true
still_awaited c (server.finished id fault value) w k n h =
    still_awaits (with_outcome (outcome_by fault value)) (λ call. refl) (numbers_of (length c.calls) (id ∷ [])) c.calls n ∙ w.awaited k n h
still_awaited c (server.updated ids) w k n h =
    let ns = numbers_of (length c.calls) ids in
    let before = holds_still ns c.documents.pending k n w.view.pending h in
    ap awaits_update (others_stay with_update ns c.calls n before.1) ∙ w.awaited k n before.0
still_awaited c _ w k n h = w.awaited k n h

breaks_shown : (c : Client) (n : ℕ) → IsShown c → IsShown (breaks n c)
breaks_shown c n w = record { view = w.view; awaited = w.awaited }

unless_shown : (c : Client) (m : ServerMessage) (n : Option ℕ) → IsShown c → IsShown (told_unless c m n)
unless_shown c m None w = record { view = documents_view (length c.calls) c.documents m w.view; awaited = still_awaited c m w }
unless_shown c m (Some n) w = breaks_shown c n w

answer_shown : (c : Client) (r : Result ServerMessage MsgFault) → IsShown c → IsShown (told_answer c r)
answer_shown c (Ok m) w = unless_shown c m (message_refusal c m) w
answer_shown c (Err Parse) w = breaks_shown c 1 w
answer_shown c (Err (BadRequest name)) w = breaks_shown c 2 w
answer_shown c (Err Memory) w = breaks_shown c 1 w

text_shown : (c : Client) (t : List ℕ) → IsShown c → IsShown (told_text c t)
text_shown c t w = elim (nat_lt max_server_text (length t)) as
    (λ b. IsShown (cond b (breaks 1 c) (told_answer c (server_answer t)))) [ true ↦ breaks_shown c 1 w | false ↦ answer_shown c (server_answer t) w ]

pub texts_shown : (c : Client) (texts : List (List ℕ)) → IsShown c → IsShown (all_told c texts)
texts_shown c [] w = w
texts_shown c (t ∷ texts) w = texts_shown (told_text c t) texts (text_shown c t w)

-- ---- a call

pub called_shown : (c : Client) (method : List ℕ) (params : List Val) (view : Rows) (keys : List Key) → IsSorted key_cmp view →
    ((q : Key) → list_any (eq_by_cmp key_cmp q) keys ≡ false → at key_cmp view q ≡ at key_cmp c.documents.view q) → IsShown c →
    IsShown (called method params view keys c)
called_shown c method params view keys sorted alone w = record {
  view = simulated_view key_order (suc (length c.calls)) view keys c.documents sorted alone w.view;
  awaited = λ k n h. new_awaits c.calls (record { outcome = None; is_updated = false }) n refl
      (as_before k n (holds_then (suc (length c.calls)) keys c.documents.pending k n h));
}
  where
    as_before : (k : Key) (n : ℕ) → (n ≡ suc (length c.calls)) ⊎ (is_among (holders key_cmp c.documents.pending k) n ≡ true) →
        (n ≡ suc (length c.calls)) ⊎ (awaits_update (call_at c.calls n) ≡ true)
    as_before k n (inl e) = inl e
    as_before k n (inr e) = inr (w.awaited k n e)

-- ---- what is held

message_holds : (c : Client) (m : ServerMessage) → IsShown c → IsHeldOn c (told_message c m)
message_holds c (server.updated ids) w k n h awaits =
    let ns = numbers_of (length c.calls) ids in
    holds_on ns c.documents.pending k n w.view.pending h (named (is_among ns n) refl)
  where
    named : (b : Bool) → is_among (numbers_of (length c.calls) ids) n ≡ b → is_among (numbers_of (length c.calls) ids) n ≡ false
    named true e = absurd (true≢false (sym awaits ∙ updated_once (numbers_of (length c.calls) ids) c.calls n e))
    named false e = e
message_holds c _ w k n h awaits = h

unless_holds : (c : Client) (m : ServerMessage) (n : Option ℕ) → IsShown c → IsHeldOn c (told_unless c m n)
unless_holds c m None w = message_holds c m w
unless_holds c m (Some r) w = λ k n h awaits. h

answer_holds : (c : Client) (r : Result ServerMessage MsgFault) → IsShown c → IsHeldOn c (told_answer c r)
answer_holds c (Ok m) w = unless_holds c m (message_refusal c m) w
answer_holds c (Err Parse) w = λ k n h awaits. h
answer_holds c (Err (BadRequest name)) w = λ k n h awaits. h
answer_holds c (Err Memory) w = λ k n h awaits. h

pub text_holds : (c : Client) (t : List ℕ) → IsShown c → IsHeldOn c (told_text c t)
text_holds c t w = elim (nat_lt max_server_text (length t)) as
    (λ b. IsHeldOn c (cond b (breaks 1 c) (told_answer c (server_answer t)))) [ true ↦ λ k n h awaits. h | false ↦ answer_holds c (server_answer t) w ]

pub called_holds : (c : Client) (method : List ℕ) (params : List Val) (view : Rows) (keys : List Key) → IsHeldOn c (called method params view keys c)
called_holds c method params view keys k n h awaits = holds_too (suc (length c.calls)) keys c.documents.pending k n h

pub called_touches : (c : Client) (method : List ℕ) (params : List Val) (view : Rows) (keys : List Key) (k : Key) → list_any (eq_by_cmp key_cmp k) keys ≡ true →
    is_among (holders key_cmp (called method params view keys c).documents.pending k) (suc (length c.calls)) ≡ true
called_touches c method params view keys k t = touched_held (suc (length c.calls)) keys c.documents.pending k t

-- ---- at rest

-- Once each call is updated, what is shown is what the server has.
pub rest_shown : (c : Client) → IsShown c → list_all (λ (call : Call). call.is_updated) c.calls ≡ true → c.documents.view ≡ c.documents.server
rest_shown c w all = view_is_server key_order c.documents w.view
    (same_maps key_order c.documents.pending [] w.view.pending (sorted-nil key_cmp) (λ q. free q (at key_cmp c.documents.pending q) refl))
  where
    free : (q : Key) (x : Option (List ℕ)) → at key_cmp c.documents.pending q ≡ x → x ≡ None
    free q None e = refl
    free q (Some []) e = absurd (w.view.holders q e)
    free q (Some (h ∷ hs)) e =
        let own = ap (λ b. b || is_among hs h) (eq_by_cmp-self number_order h) in
        absurd (true≢false (sym (w.awaited q h (ap (λ y. is_among (unwrap_or y []) h) e ∙ own)) ∙ none_awaits c.calls h all))

-- ---- refused texts

unless_breaks : (c : Client) (m : ServerMessage) (r : Option ℕ) (n : ℕ) → (told_unless c m r).broken ≡ Some n → c.broken ≡ None → told_unless c m r ≡ breaks n c
unless_breaks c m None n e none = cc (sym none ∙ e)
unless_breaks c m (Some k) n e none = λ i. record c { broken = e i }

answer_breaks : (c : Client) (r : Result ServerMessage MsgFault) (n : ℕ) → (told_answer c r).broken ≡ Some n → c.broken ≡ None → told_answer c r ≡ breaks n c
answer_breaks c (Ok m) n e none = unless_breaks c m (message_refusal c m) n e none
answer_breaks c (Err Parse) n e none = λ i. record c { broken = e i }
answer_breaks c (Err (BadRequest name)) n e none = λ i. record c { broken = e i }
answer_breaks c (Err Memory) n e none = λ i. record c { broken = e i }

pub text_breaks : (c : Client) (t : List ℕ) (n : ℕ) → (told_text c t).broken ≡ Some n → c.broken ≡ None → told_text c t ≡ breaks n c
text_breaks c t n e none = elim (nat_lt max_server_text (length t)) as
    (λ b. (cond b (breaks 1 c) (told_answer c (server_answer t))).broken ≡ Some n → cond b (breaks 1 c) (told_answer c (server_answer t)) ≡ breaks n c) [
      | true ↦ λ e. λ i. record c { broken = e i }
      | false ↦ λ e. answer_breaks c (server_answer t) n e none
    ] e
