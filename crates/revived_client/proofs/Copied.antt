-- The name of a client's session and the copies of its texts.
use Rattle.std.specs.Prelude.{
  ◌≡◌,
  ◌++◌,
  ◌∷◌,
  ◌+◌,
  [],
  ℕ,
  zero,
  suc,
  List,
  length,
  Bool,
  true,
  false,
  cond,
  ◌&&◌,
  nat_lt,
  decimal,
  codes,
  Option,
  Some,
  None,
  is_some,
  is_none,
  option_map,
  Result,
  Ok,
  Err,
  refl,
}
use Rattle.std.proofs.Common.{ap, sym, subst, ◌∙◌, arith, length-append}
use Rattle.value_model.specs.Val.{Val, text as text_val}
use Rattle.ddp_messages.specs.Answers.{server_answer}
use Rattle.ddp_messages.specs.declared.fault.MsgFault.{MsgFault}
use Rattle.ddp_messages.specs.declared.fault.MsgFault.TheVariants.{Parse, BadRequest, Memory}
use Rattle.ddp_messages.specs.ClientMessage as client
use Rattle.ddp_messages.specs.ServerMessage as server
use Rattle.ddp_messages.specs.ServerMessage.{ServerMessage}
use Rattle.ddp_messages.specs.Texts.{client_text}
use Rattle.client_model.specs.Client.{Call, Client}
use Rattle.client_model.specs.Taking.{max_server_text, early_refusal, late_refusal, message_refusal, numbers_of, session_in, outcome_by, with_outcome, with_update, call_changed, number_changed, all_changed, calls_in, told_unless, told_answer, told_text, breaks}
use Rattle.client_model.specs.Asking.{can_sub, subscribed, can_unsub, unsubscribed, can_call, call_limit, seed_of}
use Rattle.client_core.specs.State.{Own}
use Rattle.client_core.specs.Asked.{next_number, called_by}
use Rattle.client_core.specs.Asked as asking
use Rattle.client_core.specs.declared.fault.ClientFault.{ClientFault}
use Rattle.client_core.specs.declared.fault.ClientFault.TheVariants as fault
use Rattle.client_script.specs.declared.line.Ask.{Ask}
use Rattle.client_script.specs.declared.line.Ask.TheVariants as ask
use Rattle.client_core.specs.Taken.{Takes}
use Rattle.client_core.specs.declared.fault.TakeFault.{TakeFault}
use Rattle.client_core.specs.declared.fault.TakeFault.TheVariants as taking
use Rattle.revived_client.specs.Copies.{AsksCopy, session_named, opened_where, kept_or, call_text}

-- ---- the name of the session behind a text that was taken

named : (c : Client) (m : ServerMessage) → c.session ≡ None → session_in None m ≡ session_in c.session m
named c m none = ap (λ s. session_in s m) (sym none)

named_unless : (c : Client) (m : ServerMessage) (n : Option ℕ) → c.session ≡ None → (told_unless c m n).broken ≡ None → session_in None m ≡ (told_unless c m n).session
named_unless c m None none whole = named c m none
named_unless c m (Some n) none whole = cc whole

named_answer : (c : Client) (r : Result ServerMessage MsgFault) → c.session ≡ None → (told_answer c r).broken ≡ None → session_named r ≡ (told_answer c r).session
named_answer c (Ok m) none whole = named_unless c m (message_refusal c m) none whole
named_answer c (Err Parse) none whole = cc whole
named_answer c (Err (BadRequest name)) none whole = cc whole
named_answer c (Err Memory) none whole = cc whole

pub named_text : (c : Client) (t : List ℕ) → c.session ≡ None → (told_text c t).broken ≡ None → session_named (server_answer t) ≡ (told_text c t).session
named_text c t none whole =
    elim (nat_lt max_server_text (length t))
    as (λ b. (cond b (breaks 1 c) (told_answer c (server_answer t))).broken ≡ None → session_named (server_answer t) ≡ (cond b (breaks 1 c) (told_answer c (server_answer t))).session) [
      | true ↦ λ e. cc e
      | false ↦ λ e. named_answer c (server_answer t) none e
    ] whole

-- a client with a session keeps it
kept_unless : (c : Client) (m : ServerMessage) (n : Option ℕ) → is_some c.session ≡ true → message_refusal c m ≡ n → (told_unless c m n).broken ≡ None → c.session ≡ (told_unless c m n).session
kept_unless c (server.connected name) None some is whole =
    let four : message_refusal c (server.connected name) ≡ Some 4 = ap (λ b. cond b (Some 4) (early_refusal (server.connected name))) some in
    cc (sym is ∙ four)
kept_unless c _ None some is whole = refl
kept_unless c m (Some n) some is whole = cc whole

kept_answer : (c : Client) (r : Result ServerMessage MsgFault) → is_some c.session ≡ true → (told_answer c r).broken ≡ None → c.session ≡ (told_answer c r).session
kept_answer c (Ok m) some whole = kept_unless c m (message_refusal c m) some refl whole
kept_answer c (Err Parse) some whole = cc whole
kept_answer c (Err (BadRequest name)) some whole = cc whole
kept_answer c (Err Memory) some whole = cc whole

pub kept_text : (c : Client) (t : List ℕ) → is_some c.session ≡ true → (told_text c t).broken ≡ None → c.session ≡ (told_text c t).session
kept_text c t some whole =
    elim (nat_lt max_server_text (length t))
    as (λ b. (cond b (breaks 1 c) (told_answer c (server_answer t))).broken ≡ None → c.session ≡ (cond b (breaks 1 c) (told_answer c (server_answer t))).session) [
      | true ↦ λ e. cc e
      | false ↦ λ e. kept_answer c (server_answer t) some e
    ] whole

-- ---- a text changes nothing of how many calls were made

place_length : (place : ℕ) (f : Call → Call) (calls : List Call) → length (call_changed place f calls) ≡ length calls
place_length place f [] = refl
place_length zero f (call ∷ calls) = refl
place_length (suc place) f (call ∷ calls) = ap suc (place_length place f calls)

number_length : (n : ℕ) (f : Call → Call) (calls : List Call) → length (number_changed n f calls) ≡ length calls
number_length zero f calls = refl
number_length (suc n) f calls = place_length n f calls

all_length : (ns : List ℕ) (f : Call → Call) (calls : List Call) → length (all_changed ns f calls) ≡ length calls
all_length [] f calls = refl
all_length (n ∷ ns) f calls = all_length ns f (number_changed n f calls) ∙ number_length n f calls

message_calls : (calls : List Call) (m : ServerMessage) → length (calls_in calls m) ≡ length calls
message_calls calls (server.finished id fault value) = all_length (numbers_of (length calls) (id ∷ [])) (with_outcome (outcome_by fault value)) calls
message_calls calls (server.updated ids) = all_length (numbers_of (length calls) ids) with_update calls
message_calls calls _ = refl

unless_calls : (c : Client) (m : ServerMessage) (n : Option ℕ) → length (told_unless c m n).calls ≡ length c.calls
unless_calls c m None = message_calls c.calls m
unless_calls c m (Some n) = refl

answer_calls : (c : Client) (r : Result ServerMessage MsgFault) → length (told_answer c r).calls ≡ length c.calls
answer_calls c (Ok m) = unless_calls c m (message_refusal c m)
answer_calls c (Err Parse) = refl
answer_calls c (Err (BadRequest name)) = refl
answer_calls c (Err Memory) = refl

pub text_calls : (c : Client) (t : List ℕ) → length (told_text c t).calls ≡ length c.calls
text_calls c t =
    elim (nat_lt max_server_text (length t))
    as (λ b. length (cond b (breaks 1 c) (told_answer c (server_answer t))).calls ≡ length c.calls)
    [ true ↦ refl | false ↦ answer_calls c (server_answer t) ]

-- ---- the copy of a text

pub copies_sub : {X : Type 0} (old new : Own) (id name : List ℕ) (params : List Val) (text : List ℕ) (x : X) → text ≡ client_text (client.sub id name params)
    → asking.Does (can_sub id old.client) (subscribed id name params) old new (Ok x) → AsksCopy (ask.Sub id name params) old new (Ok text)
copies_sub old new id name params text x is d = (d.0, d.1, ap (λ (o : Own). o.client.waiting) d.1 ∙ ap (λ t. old.client.waiting ++ t ∷ []) (sym is))

pub refuses_sub : (X : Type 0) (old new : Own) (id name : List ℕ) (params : List Val) (f : ClientFault)
    → asking.Does {X = X} (can_sub id old.client) (subscribed id name params) old new (Err f) → AsksCopy (ask.Sub id name params) old new (Err f)
refuses_sub X old new id name params fault.Idle d = d
refuses_sub X old new id name params fault.Memory d = d

pub copies_unsub : {X : Type 0} (old new : Own) (id text : List ℕ) (x : X) → text ≡ client_text (client.unsub id)
    → asking.Does (can_unsub id old.client) (unsubscribed id) old new (Ok x) → AsksCopy (ask.Unsub id) old new (Ok text)
copies_unsub old new id text x is d = (d.0, d.1, ap (λ (o : Own). o.client.waiting) d.1 ∙ ap (λ t. old.client.waiting ++ t ∷ []) (sym is))

pub refuses_unsub : (X : Type 0) (old new : Own) (id : List ℕ) (f : ClientFault)
    → asking.Does {X = X} (can_unsub id old.client) (unsubscribed id) old new (Err f) → AsksCopy (ask.Unsub id) old new (Err f)
refuses_unsub X old new id fault.Idle d = d
refuses_unsub X old new id fault.Memory d = d

-- ---- a call

session_text : (s : Option (List ℕ)) (n : ℕ) (method : List ℕ) (params : List Val) (text : List ℕ) →
    Some text ≡ option_map (λ session. client_text (client.method (decimal n) method params (Some (seed_of (Some session) n)))) s →
    client_text (client.method (decimal n) method params (Some (seed_of s n))) ≡ text
session_text None n method params text is = cc is
session_text (Some session) n method params text is = cc is

-- the text of a call that is made is the one that waits then
pub copies_call : (old new : Own) (method : List ℕ) (params : List Val) (text : List ℕ) (n : ℕ) → Some text ≡ call_text method params old →
    asking.Calls method params old new (Ok n) → AsksCopy (ask.Call method params) old new (Ok text)
copies_call old new method params text n is d = (
  d.0,
  d.2,
  ap (λ (o : Own). o.client.waiting) d.2
      ∙ ap (λ t. old.client.waiting ++ t ∷ []) (session_text old.client.session (next_number old) method params text is),
)

pub refuses_call : (old new : Own) (method : List ℕ) (params : List Val) (f : ClientFault) →
    asking.Calls method params old new (Err f) → AsksCopy (ask.Call method params) old new (Err f)
refuses_call old new method params fault.Idle d = d
refuses_call old new method params fault.Memory d = d

no_text : (s : Option (List ℕ)) (b d : Bool) (f : List ℕ → List ℕ) → None ≡ option_map f s → ((is_some s && b) && d) ≡ false
no_text None b d f is = refl
no_text (Some session) b d f is = cc is

-- without a session there is no text, and no call is made
pub no_call : (own : Own) (method : List ℕ) (params : List Val) → None ≡ call_text method params own → can_call own.client ≡ false
no_call own method params is =
    no_text own.client.session (is_none own.client.broken) (nat_lt (length own.client.calls) call_limit)
    (λ session. client_text (client.method (decimal (next_number own)) method params (Some (seed_of (Some session) (next_number own))))) is

pub session_text_is : (own : Own) (session method text seed : List ℕ) (params : List Val) (n : ℕ) → own.client.session ≡ Some session → n ≡ next_number own →
    seed ≡ session ++ codes "-" ++ decimal n → text ≡ client_text (client.method (decimal n) method params (Some (text_val seed))) →
    Some text ≡ call_text method params own
session_text_is own session method text seed params n has number is_seed is =
    let f : ℕ → List ℕ → List ℕ = λ k s. client_text (client.method (decimal k) method params (Some (seed_of (Some s) k))) in
    ap Some (is ∙ ap (λ s. client_text (client.method (decimal n) method params (Some (text_val s)))) is_seed)
    ∙ (ap (λ k. Some (f k session)) number ∙ sym (ap (option_map (f (next_number own))) has))

pub no_session_text : (own : Own) (method : List ℕ) (params : List Val) → own.client.session ≡ None → None ≡ call_text method params own
no_session_text own method params none =
    sym (ap (option_map (λ s. client_text (client.method (decimal (next_number own)) method params (Some (seed_of (Some s) (next_number own)))))) none)

-- ---- what it knows of its client

did_session : {X : Type 0} (can : Bool) (act : Client → Client) (old new : Own) (r : Result X ClientFault) → (act old.client).session ≡ old.client.session →
    asking.Does can act old new r → new.client.session ≡ old.client.session
did_session can act old new (Ok x) same d = ap (λ (o : Own). o.client.session) d.1 ∙ same
did_session can act old new (Err fault.Idle) same d = ap (λ (o : Own). o.client.session) d.1
did_session can act old new (Err fault.Memory) same d = ap (λ (o : Own). o.client.session) d

did_calls : {X : Type 0} (can : Bool) (act : Client → Client) (old new : Own) (r : Result X ClientFault) → length (act old.client).calls ≡ length old.client.calls →
    asking.Does can act old new r → length new.client.calls ≡ length old.client.calls
did_calls can act old new (Ok x) same d = ap (λ (o : Own). length o.client.calls) d.1 ∙ same
did_calls can act old new (Err fault.Idle) same d = ap (λ (o : Own). length o.client.calls) d.1
did_calls can act old new (Err fault.Memory) same d = ap (λ (o : Own). length o.client.calls) d

pub did : {X : Type 0} (can : Bool) (act : Client → Client) (session : Option (List ℕ)) (calls : ℕ) (old new : Own) (r : Result X ClientFault) →
    (act old.client).session ≡ old.client.session → length (act old.client).calls ≡ length old.client.calls → asking.Does can act old new r →
    session ≡ old.client.session → calls ≡ length old.client.calls → (session ≡ new.client.session) × (calls ≡ length new.client.calls)
did can act session calls old new r same count d s n = (s ∙ sym (did_session can act old new r same d), n ∙ sym (did_calls can act old new r count d))

-- behind a call
pub called_knows : (method : List ℕ) (params : List Val) (session : Option (List ℕ)) (old new : Own) (n : ℕ) → asking.Calls method params old new (Ok n) →
    session ≡ old.client.session → (session ≡ new.client.session) × (n ≡ length new.client.calls)
called_knows method params session old new n d s =
    let more = length-append old.client.calls (record { outcome = None; is_updated = false } ∷ []) in
    let one_more : next_number old ≡ length (called_by method params old).client.calls = omega (arith, more) in
    let count : n ≡ length (called_by method params old).client.calls = d.1 ∙ one_more in
    (s ∙ sym (ap (λ (o : Own). o.client.session) d.2), count ∙ sym (ap (λ (o : Own). length o.client.calls) d.2))

pub refused_knows : (method : List ℕ) (params : List Val) (session : Option (List ℕ)) (calls : ℕ) (old new : Own) (f : ClientFault) →
    asking.Calls method params old new (Err f) → session ≡ old.client.session → calls ≡ length old.client.calls →
    (session ≡ new.client.session) × (calls ≡ length new.client.calls)
refused_knows method params session calls old new fault.Idle d s n = (s ∙ sym (ap (λ (o : Own). o.client.session) d.1), n ∙ sym (ap (λ (o : Own). length o.client.calls) d.1))
refused_knows method params session calls old new fault.Memory d s n = (s ∙ sym (ap (λ (o : Own). o.client.session) d), n ∙ sym (ap (λ (o : Own). length o.client.calls) d))

-- ---- behind a text that was taken

pub session_after : (c : Client) (t : List ℕ) (was opened : Option (List ℕ)) → was ≡ c.session → opened ≡ opened_where c.session (session_named (server_answer t)) →
    (told_text c t).broken ≡ None → kept_or was opened ≡ (told_text c t).session
session_after c t None opened is names whole =
    names ∙ (ap (λ s. opened_where s (session_named (server_answer t))) (sym is) ∙ named_text c t (sym is) whole)
session_after c t (Some session) opened is names whole = is ∙ kept_text c t (ap (λ o. is_some o) (sym is)) whole

-- a text that is taken leaves how many calls were made, and one that isn't leaves the session, too
pub took_calls : {X : Type 0} (t : List ℕ) (old new : Own) (r : Result X TakeFault) (calls : ℕ) → Takes t old new r → calls ≡ length old.client.calls →
    calls ≡ length new.client.calls
took_calls t old new (Ok x) calls d e = e ∙ (sym (text_calls old.client t) ∙ sym (ap (λ (o : Own). length o.client.calls) d.2))
took_calls t old new (Err (taking.ServerSent n)) calls d e = e ∙ sym (ap (λ (o : Own). length o.client.calls) d.2)
took_calls t old new (Err taking.Idle) calls d e = e ∙ sym (ap (λ (o : Own). length o.client.calls) d.1)
took_calls t old new (Err taking.Memory) calls d e = e ∙ sym (ap (λ (o : Own). length o.client.calls) d)

pub refused_session : (t : List ℕ) (old new : Own) (f : TakeFault) (session : Option (List ℕ)) → Takes {X = Unit {0}} t old new (Err f) → session ≡ old.client.session →
    session ≡ new.client.session
refused_session t old new (taking.ServerSent n) session d e = e ∙ sym (ap (λ (o : Own). o.client.session) d.2)
refused_session t old new taking.Idle session d e = e ∙ sym (ap (λ (o : Own). o.client.session) d.1)
refused_session t old new taking.Memory session d e = e ∙ sym (ap (λ (o : Own). o.client.session) d)

pub took_session : {X : Type 0} (t : List ℕ) (old new : Own) (was opened : Option (List ℕ)) (x : X) → Takes t old new (Ok x) → was ≡ old.client.session →
    opened ≡ opened_where old.client.session (session_named (server_answer t)) → kept_or was opened ≡ new.client.session
took_session t old new was opened x d is names = session_after old.client t was opened is names d.1 ∙ sym (ap (λ (o : Own). o.client.session) d.2)

-- ---- the answers, from what was seen before

pub no_memory : (a : Ask) (own : Own) (result : Result (List ℕ) ClientFault) → result ≡ Err fault.Memory → AsksCopy a own own result
no_memory a own result is = let P : Result (List ℕ) ClientFault → Type 0 = λ r. AsksCopy a own own r in subst P (sym is) refl

pub asks_copy-at : (a : Ask) (was old new : Own) (f : ClientFault) (result : Result (List ℕ) ClientFault) → was ≡ old → result ≡ Err f → AsksCopy a was new (Err f) →
    AsksCopy a old new result
asks_copy-at a was old new f result is err d =
    let P : Own → Type 0 = λ o. AsksCopy a o new result in
    let Q : Result (List ℕ) ClientFault → Type 0 = λ r. AsksCopy a was new r in
    subst P is (subst Q (sym err) d)
