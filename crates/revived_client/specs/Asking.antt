-- What a client is asked for that lives through several links.
use Rattle.std.specs.Prelude.{◌≡◌, ℕ, List, true, false, Bool, Option, Some, None, Result, Ok, Err}
use Rattle.client_core.specs.declared.fault.ClientFault.{ClientFault}
use Rattle.client_core.specs.declared.fault.ClientFault.TheVariants as fault
use Rattle.client_core.specs.declared.fault.TakeFault.{TakeFault}
use Rattle.client_core.specs.declared.fault.TakeFault.TheVariants as take
use Rattle.client_script.specs.declared.line.Ask.{Ask}
use Rattle.console_run.specs.Speaking.{can, asked}
use Rattle.reconnect_model.specs.Revival.{Revival}
use Rattle.reconnect_model.specs.Saying.{first_of, says}
use Rattle.revived_client.specs.declared.client.Stop.{Stop}
use Rattle.revived_client.specs.declared.client.Stop.TheVariants.{Refused, OutOfMemory}
use Rattle.revived_client.specs.declared.last.Last.{Last}
use Rattle.revived_client.specs.State.{RevivedState, spoken}
use Rattle.revived_client.specs.Last.{caught_up}

-- why nothing can be asked for any more
abbrev pub fault_of : Option Stop → Option ClientFault
fault_of None = None
fault_of (Some (Refused n)) = Some fault.Idle
fault_of (Some OutOfMemory) = Some fault.Memory

-- why no text is taken any more, of a client whose version was refused or wasn't
abbrev pub take_fault_of : Option Stop → Bool → Option TakeFault
take_fault_of None true = Some take.Idle
take_fault_of None false = None
take_fault_of (Some (Refused n)) is_failed = Some take.Idle
take_fault_of (Some OutOfMemory) is_failed = Some take.Memory

-- it is done exactly where it can be
abbrev pub Does : {X : Type 0} → Bool → RevivedState → RevivedState → RevivedState → Result X ClientFault → Type 0
Does can done old new (Ok x) = (can ≡ true) × (new ≡ done)
Does can done old new (Err fault.Idle) = (can ≡ false) × (new ≡ old)
Does can done old new (Err fault.Memory) = new ≡ old

-- unless there is a reason for which nothing is done any more
abbrev pub DoesUnless : {X : Type 0} → Option ClientFault → Bool → RevivedState → RevivedState → RevivedState → Result X ClientFault → Type 0
DoesUnless None can done old new result = Does can done old new result
DoesUnless (Some reason) can done old new result = (result ≡ Err reason) × (new ≡ old)

-- why it doesn't, where there is no other reason
abbrev pub MayRefuse : Option ClientFault → ClientFault → Type 0
MayRefuse None given = given ≡ fault.Memory
MayRefuse (Some reason) given = given ≡ reason

-- what is remembered has the text that was queued last, or there is a reason for which nothing is done
abbrev pub Readies : {X : Type 0} → Option Stop → Revival → Option Last → Revival → Option Last → Result X ClientFault → Type 0
Readies stop r last r' last' (Ok x) = (stop ≡ None) × (r' ≡ caught_up r last) × (last' ≡ None)
Readies stop r last r' last' (Err given) = MayRefuse (fault_of stop) given × (r' ≡ r) × (last' ≡ last)

-- the client does what it is asked for, and its text waits to be said
abbrev pub Asks : {X : Type 0} → Ask → RevivedState → RevivedState → Result X ClientFault → Type 0
Asks ask old new result = DoesUnless (fault_of old.stop) (can old.own ask) (spoken (asked ask old.own) old) old new result

-- the first text that waits is said, unless no text is taken any more
abbrev pub SaysUnless : Option Stop → RevivedState → RevivedState → Option (List ℕ) → Type 0
SaysUnless None old new text = (text ≡ first_of old.revival.waiting) × (new ≡ record old { revival = says old.revival })
SaysUnless (Some stop) old new text = (text ≡ None) × (new ≡ old)

abbrev pub Says : RevivedState → RevivedState → Option (List ℕ) → Type 0
Says old new text = SaysUnless old.stop old new text
