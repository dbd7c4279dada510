-- What a client does that hands out a copy of each text that it queues.
use Rattle.std.specs.Prelude.{◌≡◌, ℕ, List, [], ◌∷◌, ◌++◌, decimal, true, false, Option, Some, None, option_map, Result, Ok, Err}
use Rattle.value_model.specs.Val.{Val}
use Rattle.ddp_messages.specs.declared.fault.MsgFault.{MsgFault}
use Rattle.ddp_messages.specs.ClientMessage as client
use Rattle.ddp_messages.specs.ServerMessage.{ServerMessage}
use Rattle.ddp_messages.specs.Texts.{client_text}
use Rattle.client_model.specs.Taking.{session_in}
use Rattle.client_model.specs.Asking.{seed_of}
use Rattle.client_core.specs.State.{Own}
use Rattle.client_core.specs.Asked.{next_number}
use Rattle.client_core.specs.declared.fault.ClientFault.{ClientFault}
use Rattle.client_core.specs.declared.fault.ClientFault.TheVariants.{Idle, Memory}
use Rattle.client_script.specs.declared.line.Ask.{Ask}
use Rattle.console_run.specs.Speaking.{can, asked}

-- it is done exactly where the client can do it, and the text that waits then is answered
abbrev pub AsksCopy : Ask → Own → Own → Result (List ℕ) ClientFault → Type 0
AsksCopy ask old new (Ok text) = (can old ask ≡ true) × (new ≡ asked ask old) × (new.client.waiting ≡ old.client.waiting ++ text ∷ [])
AsksCopy ask old new (Err Idle) = (can old ask ≡ false) × (new ≡ old)
AsksCopy ask old new (Err Memory) = new ≡ old

-- the name of the session that a text opens
abbrev pub session_named : Result ServerMessage MsgFault → Option (List ℕ)
session_named (Ok m) = session_in None m
session_named (Err fault) = None

-- and where there is a session, no further one is opened
abbrev pub opened_where : Option (List ℕ) → Option (List ℕ) → Option (List ℕ)
opened_where None named = named
opened_where (Some session) named = None

-- the session that there was, or the one that was opened
abbrev pub kept_or : Option (List ℕ) → Option (List ℕ) → Option (List ℕ)
kept_or None opened = opened
kept_or (Some session) opened = Some session

-- the text of the next call, where there is a session
abbrev pub call_text : List ℕ → List Val → Own → Option (List ℕ)
call_text method params own =
    option_map (λ session. client_text (client.method (decimal (next_number own)) method params (Some (seed_of (Some session) (next_number own)))))
    own.client.session
