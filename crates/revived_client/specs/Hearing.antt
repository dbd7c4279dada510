-- What a client that lives through several links makes of a text of its server.
use Rattle.std.specs.Prelude.{◌≡◌, ℕ, List, [], true, false, Option, Some, None, Result, Ok, Err}
use Rattle.client_core.specs.State.{Own}
use Rattle.client_core.specs.declared.fault.TakeFault.{TakeFault}
use Rattle.client_core.specs.declared.fault.TakeFault.TheVariants.{Idle, ServerSent, Memory}
use Rattle.reconnect_model.specs.Revival.{Revival}
use Rattle.reconnect_model.specs.Giving.{hears}
use Rattle.reconnect_laws.specs.Given.{all_given}
use Rattle.revived_client.specs.declared.client.Stop.{Stop}
use Rattle.revived_client.specs.declared.client.Stop.TheVariants.{Refused, OutOfMemory}
use Rattle.revived_client.specs.State.{RevivedState, quiet, all_queued, spoken}
use Rattle.revived_client.specs.Asking.{take_fault_of}

-- The client is given texts one by one, up to the first that it refuses or by which its version is refused.
abbrev pub given : List (List ℕ) → Own → Own
given texts own = record own { client = all_given texts own.client }

-- the rule that refuses: of the text itself, or else of a text that the client is given for it
abbrev pub refused_first : Option ℕ → Option ℕ → Option ℕ
refused_first None by_client = by_client
refused_first (Some n) by_client = Some n

-- a client whose texts wait to be said, or one that stops
abbrev pub left_by : Option ℕ → Own → RevivedState → RevivedState
left_by None own v = spoken own v
left_by (Some n) own v = record v { own = quiet own; stop = Some (Refused n) }

abbrev pub refusal : List ℕ → RevivedState → Option ℕ
refusal text v = let h = hears v.revival text in refused_first h.revival.broken (given h.texts v.own).client.broken

-- The text was heard, the client was given what comes of it, and what the client queued then waits to be said.
abbrev pub heard : List ℕ → RevivedState → RevivedState
heard text v = let h = hears v.revival text in left_by (refusal text v) (given h.texts v.own) (record v { revival = h.revival })

abbrev pub HearsOn : {X : Type 0} → List ℕ → RevivedState → RevivedState → Result X TakeFault → Type 0
HearsOn text old new (Ok x) = (refusal text old ≡ None) × (new ≡ heard text old)
HearsOn text old new (Err (ServerSent n)) = (refusal text old ≡ Some n) × (new ≡ heard text old)
HearsOn text old new (Err Idle) = true ≡ false
HearsOn text old new (Err Memory) = new.stop ≡ Some OutOfMemory

-- it is heard unless no text is taken any more
abbrev pub HearsUnless : {X : Type 0} → Option TakeFault → List ℕ → RevivedState → RevivedState → Result X TakeFault → Type 0
HearsUnless None text old new result = HearsOn text old new result
HearsUnless (Some fault) text old new result = (result ≡ Err fault) × (new ≡ old)

abbrev pub Hears : {X : Type 0} → List ℕ → RevivedState → RevivedState → Result X TakeFault → Type 0
Hears text old new result = HearsUnless (take_fault_of old.stop old.own.client.is_failed) text old new result

-- ---- its parts

-- the texts that the client is to be given
abbrev pub AreFor : List ℕ → Revival → Revival → Result (List (List ℕ)) TakeFault → Type 0
AreFor text old new (Ok texts) = (new ≡ (hears old text).revival) × (texts ≡ (hears old text).texts) × (new.broken ≡ None)
AreFor text old new (Err (ServerSent n)) = (new ≡ (hears old text).revival) × ((hears old text).texts ≡ []) × (new.broken ≡ Some n)
AreFor text old new (Err Idle) = true ≡ false
AreFor text old new (Err Memory) = Unit {0}

abbrev pub IsGiven : {X : Type 0} → List (List ℕ) → Own → Own → Result X TakeFault → Type 0
IsGiven texts old new (Ok x) = (new ≡ given texts old) × (new.client.broken ≡ None)
IsGiven texts old new (Err (ServerSent n)) = (new ≡ given texts old) × (new.client.broken ≡ Some n)
IsGiven texts old new (Err Idle) = true ≡ false
IsGiven texts old new (Err Memory) = Unit {0}

-- both heard it
abbrev pub HearsBoth : {X : Type 0} → List ℕ → Own → Revival → Own → Revival → Result X TakeFault → Type 0
HearsBoth text own r own' r' (Ok x) =
    let h = hears r text in
    let g = given h.texts own in
    (refused_first h.revival.broken g.client.broken ≡ None) × (own' ≡ quiet g) × (r' ≡ all_queued h.revival g.client.waiting)
HearsBoth text own r own' r' (Err (ServerSent n)) =
    let h = hears r text in
    let g = given h.texts own in
    (refused_first h.revival.broken g.client.broken ≡ Some n) × (quiet own' ≡ quiet g) × (r' ≡ h.revival)
HearsBoth text own r own' r' (Err Idle) = true ≡ false
HearsBoth text own r own' r' (Err Memory) = Unit {0}

abbrev pub stop_of : {X : Type 0} → Result X TakeFault → Option Stop
stop_of (Ok x) = None
stop_of (Err (ServerSent n)) = Some (Refused n)
stop_of (Err Idle) = Some OutOfMemory
stop_of (Err Memory) = Some OutOfMemory
