-- A client that speaks for itself.
use Rattle.std.specs.Prelude.{◌≡◌, ℕ, List, ◌∷◌, Bool, true, false, Result, Ok, Err}
use Rattle.client_model.specs.Taking.{told_text}
use Rattle.client_model.specs.Asking.{is_connected, is_settled, can_sub, subscribed, can_unsub, unsubscribed, can_call}
use Rattle.client_model.specs.Lines.{line_texts}
use Rattle.client_core.specs.State.{Own, show_lines}
use Rattle.client_core.specs.Asked.{called_by}
use Rattle.client_core.specs.declared.fault.ClientFault.{ClientFault}
use Rattle.client_core.specs.declared.fault.ClientFault.TheVariants.{Idle, Memory}
use Rattle.client_script.specs.declared.line.Ask.{Ask}
use Rattle.client_script.specs.declared.line.Ask.TheVariants as ask
use Rattle.client_script.specs.Speaking.{Look, Deed}
use Rattle.client_script.specs.Speaking as deed

abbrev pub can : Own → Ask → Bool
can own (ask.Sub id name params) = can_sub id own.client
can own (ask.Unsub id) = can_unsub id own.client
can own (ask.Call method params) = can_call own.client

-- what is asked for is done
abbrev pub asked : Ask → Own → Own
asked (ask.Sub id name params) own = record own { client = subscribed id name params own.client }
asked (ask.Unsub id) own = record own { client = unsubscribed id own.client }
asked (ask.Call method params) own = called_by method params own

-- a text of the server is taken, or refused
abbrev pub told : List ℕ → Own → Own
told text own = record own { client = told_text own.client text }

abbrev pub look_of : Own → Look
look_of own = record {
  is_connected = is_connected own.client;
  is_settled = is_settled own.client;
  is_failed = own.client.is_failed;
  broken = own.client.broken;
  can = can own;
  waiting = own.client.waiting;
  lines = line_texts (show_lines own);
}

abbrev pub Does : Own → Deed → Own → Type 0
Does own (deed.heard text) own' = own' ≡ told text own
Does own (deed.asked ask) own' = own' ≡ asked ask own
Does own (deed.said text) own' =
    (own.client.waiting ≡ text ∷ own'.client.waiting) × (own' ≡ record own { client = record own.client { waiting = own'.client.waiting } })

-- it is done exactly where it can be
abbrev pub IsAsked : {X : Type 0} → Own → Ask → Own → Result X ClientFault → Type 0
IsAsked old ask new (Ok x) = (can old ask ≡ true) × (new ≡ asked ask old)
IsAsked old ask new (Err Idle) = (can old ask ≡ false) × (new ≡ old)
IsAsked old ask new (Err Memory) = new ≡ old
