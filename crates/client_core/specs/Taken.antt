-- What a client does with a text of its server.
use Rattle.std.specs.Prelude.{◌≡◌, ℕ, List, true, false, Some, None, Result, Ok, Err}
use Rattle.ddp_messages.specs.declared.from_server.FromServer.{FromServer}
use Rattle.ddp_messages.specs.ServerMessage.{ServerMessage, server_view}
use Rattle.client_model.specs.Client.{Client}
use Rattle.client_model.specs.Taking.{message_refusal, told_message, told_unless, told_text, breaks}
use Rattle.client_model.specs.Asking.{can_take}
use Rattle.client_core.specs.declared.fault.TakeFault.{TakeFault}
use Rattle.client_core.specs.declared.fault.TakeFault.TheVariants.{Idle, ServerSent, Memory}
use Rattle.client_core.specs.State.{Own}

-- the message of a text, or the number by which it breaks a client
abbrev pub IsRead : List ℕ → Result FromServer TakeFault → Type 0
IsRead t (Ok m) = (c : Client) → told_text c t ≡ told_unless c (server_view m) (message_refusal c (server_view m))
IsRead t (Err (ServerSent n)) = (c : Client) → told_text c t ≡ breaks n c
IsRead t (Err Idle) = true ≡ false
IsRead t (Err Memory) = Unit {0}

-- a message is taken where it isn't refused
abbrev pub Tells : {X : Type 0} → ServerMessage → Own → Own → Result X TakeFault → Type 0
Tells m old new (Ok x) = (message_refusal old.client m ≡ None) × (new ≡ record old { client = told_message old.client m })
Tells m old new (Err (ServerSent n)) = (message_refusal old.client m ≡ Some n) × (new ≡ old)
Tells m old new (Err Idle) = true ≡ false
Tells m old new (Err Memory) = new ≡ old

-- a text is taken, or refused and nothing changes
abbrev pub Hears : {X : Type 0} → List ℕ → Own → Own → Result X TakeFault → Type 0
Hears t old new (Ok x) = (told_text old.client t ≡ new.client) × (new ≡ record old { client = record new.client { broken = old.client.broken } })
Hears t old new (Err (ServerSent n)) = (told_text old.client t ≡ breaks n old.client) × (new ≡ old)
Hears t old new (Err Idle) = true ≡ false
Hears t old new (Err Memory) = new ≡ old

-- A text that is taken leaves the client whole, and a refused one breaks it by the number of the first rule that refuses it.
abbrev pub Takes : {X : Type 0} → List ℕ → Own → Own → Result X TakeFault → Type 0
Takes t old new (Ok x) = (can_take old.client ≡ true) × ((told_text old.client t).broken ≡ None) × (new ≡ record old { client = told_text old.client t })
Takes t old new (Err (ServerSent n)) =
    (can_take old.client ≡ true) × ((told_text old.client t).broken ≡ Some n) × (new ≡ record old { client = breaks n old.client })
Takes t old new (Err Idle) = (can_take old.client ≡ false) × (new ≡ old)
Takes t old new (Err Memory) = new ≡ old
