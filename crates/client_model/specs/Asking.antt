-- What a client asks for: each request waits as a text (Meteor's DDP.md, "Managing Data", "Remote Procedure Calls"); and what it
-- can say of its calls.
use Rattle.std.specs.Prelude.{ℕ, suc, List, [], ◌∷◌, ◌++◌, length, decimal, codes, Bool, true, false, not, ◌&&◌, nat_lt, Option, Some, None, is_some}
use Rattle.std.specs.Prelude.{is_none, unwrap_or, if◌then◌else◌}
use Rattle.std.specs.List.{list_any, list_all}
use Rattle.map_model.specs.Maps.{at, set}
use Rattle.value_model.specs.Val.{Val, text}
use Rattle.value_model.specs.Order.{text_cmp}
use Rattle.view_model.specs.Views.{simulated}
use Rattle.ejson_value.specs.declared.key.Key.{Key}
use Rattle.ejson_value.specs.Key.{key_cmp}
use Rattle.ejson_value.specs.Rows.{Rows}
use Rattle.program_steps.specs.Runs.{Outcome}
use Rattle.ddp_messages.specs.ClientMessage as client
use Rattle.client_model.specs.declared.subs.SubState.{SubState}
use Rattle.client_model.specs.declared.subs.SubState.TheVariants as state
use Rattle.ddp_messages.specs.Texts.{client_text}
use Rattle.client_model.specs.Client.{Sub, Call, Client}
use Rattle.client_model.specs.Taking.{call_at}

-- how many calls a client makes
abbrev pub call_limit : ℕ
call_limit = 65536

-- it took `connected`, and no text broke it
abbrev pub is_connected : Client → Bool
is_connected c = is_some c.session && is_none c.broken

-- it takes texts until one broke it or its version was refused
abbrev pub can_take : Client → Bool
can_take c = not c.is_failed && is_none c.broken

abbrev pub is_going_on : SubState → Bool
is_going_on state.Waiting = true
is_going_on state.Ready = true
is_going_on _ = false

-- a subscription is waiting or ready
abbrev pub is_live : Option Sub → Bool
is_live None = false
is_live (Some sub) = is_going_on sub.state

-- and its `unsub` wasn't queued
abbrev pub is_running : Option Sub → Bool
is_running None = false
is_running (Some sub) = is_live (Some sub) && not sub.is_stopped

abbrev pub can_sub : List ℕ → Client → Bool
can_sub id c = is_connected c && not (is_live (at text_cmp c.subs id))

abbrev pub subscribed : List ℕ → List ℕ → List Val → Client → Client
subscribed id name params c = record c {
  waiting = c.waiting ++ client_text (client.sub id name params) ∷ [];
  subs = set text_cmp c.subs id (Some (record { state = state.Waiting; is_stopped = false }));
}

abbrev pub can_unsub : List ℕ → Client → Bool
can_unsub id c = is_connected c && is_running (at text_cmp c.subs id)

abbrev pub stopped : Option Sub → Option Sub
stopped None = None
stopped (Some sub) = Some (record sub { is_stopped = true })

abbrev pub unsubscribed : List ℕ → Client → Client
unsubscribed id c = record c {
  waiting = c.waiting ++ client_text (client.unsub id) ∷ [];
  subs = set text_cmp c.subs id (stopped (at text_cmp c.subs id));
}

abbrev pub can_call : Client → Bool
can_call c = is_connected c && nat_lt (length c.calls) call_limit

-- the seed of a call is the session's name, a hyphen and the call's number
abbrev pub seed_of : Option (List ℕ) → ℕ → Val
seed_of session number = text (unwrap_or session [] ++ codes "-" ++ decimal number)

-- a call: its simulation makes this view of the client's, and touches these keys
abbrev pub called : List ℕ → List Val → Rows → List Key → Client → Client
called method params view keys c =
    let number = suc (length c.calls) in
    record c {
      waiting = c.waiting ++ client_text (client.method (decimal number) method params (Some (seed_of c.session number))) ∷ [];
      documents = simulated key_cmp number view keys c.documents;
      calls = c.calls ++ record { outcome = None; is_updated = false } ∷ [];
    }

abbrev pub can_send : Client → Bool
can_send c = is_none c.broken

-- a text of the client's own
abbrev pub with_text : List ℕ → Client → Client
with_text t c = record c { waiting = c.waiting ++ t ∷ [] }

-- ---- what became of it

abbrev pub outcome_in : Option Call → Option Outcome
outcome_in None = None
outcome_in (Some call) = if call.is_updated then call.outcome else None

-- what the call of this number came to, once the server said so and that its writes are there
abbrev pub outcome_of : ℕ → Client → Option Outcome
outcome_of number c = outcome_in (call_at c.calls number)

abbrev pub is_waiting : SubState → Bool
is_waiting state.Waiting = true
is_waiting _ = false

-- no subscription and no call waits
abbrev pub is_settled : Client → Bool
is_settled c = not (list_any (λ (entry : List ℕ × Sub). is_waiting entry.1.state) c.subs) && list_all
    (λ (call : Call). is_some (outcome_in (Some call))) c.calls
