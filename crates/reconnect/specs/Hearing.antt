-- What a revived client makes of a text of its server.
use Rattle.std.specs.Prelude.{◌≡◌, ℕ, List, true, false, Some, None, IsSome, Result, Ok, Err}
use Rattle.ddp_messages.specs.ServerMessage.{ServerMessage}
use Rattle.reconnect_model.specs.Revival.{Revival}
use Rattle.reconnect_model.specs.Giving.{refused_by, text_refusal, noted, heard_unless, hears}
use Rattle.reconnect_parts.specs.declared.fault.HeardFault.{HeardFault}
use Rattle.reconnect_parts.specs.declared.fault.HeardFault.TheVariants.{Idle, ServerSent, Memory}

-- a message of the session is noted where no rule refuses it
abbrev pub Notes : {X : Type 0} → ServerMessage → Revival → Revival → Result X HeardFault → Type 0
Notes m old new (Ok x) = (refused_by old m ≡ None) × (new ≡ noted old m)
Notes m old new (Err (ServerSent n)) = (refused_by old m ≡ Some n) × (new ≡ old)
Notes m old new (Err Idle) = true ≡ false
Notes m old new (Err Memory) = Unit {0}

-- A text that is taken answers the texts that the client is given. A refused one is refused by the first rule that holds, and from
-- then on no text is taken.
abbrev pub Hears : List ℕ → Revival → Revival → Result (List (List ℕ)) HeardFault → Type 0
Hears text old new (Ok texts) = (old.broken ≡ None) × (text_refusal old text ≡ None) × (new ≡ (hears old text).revival) × (texts ≡ (hears old text).texts)
Hears text old new (Err (ServerSent n)) = (old.broken ≡ None) × (text_refusal old text ≡ Some n) × (new ≡ record old { broken = Some n })
Hears text old new (Err Idle) = IsSome old.broken × (new ≡ old)
Hears text old new (Err Memory) = old.broken ≡ None

-- the same of one that was not refused a text
abbrev pub HearsOn : List ℕ → Revival → Revival → Result (List (List ℕ)) HeardFault → Type 0
HearsOn text old new (Ok texts) = (text_refusal old text ≡ None) × (new ≡ (heard_unless old text None).revival) × (texts ≡ (heard_unless old text None).texts)
HearsOn text old new (Err (ServerSent n)) = (text_refusal old text ≡ Some n) × (new ≡ old)
HearsOn text old new (Err Idle) = true ≡ false
HearsOn text old new (Err Memory) = Unit {0}
