-- One send on a link.
use Rattle.std.specs.Prelude.{◌≡◌, ℕ, ◌-◌, ◌<◌, ◌++◌, ◌||◌, not, Bool, true, false, List, [], ◌∷◌, Option, Some, Result, Ok, Err}
use Rattle.duct.specs.declared.link.SendFault.{SendFault}
use Rattle.duct.specs.declared.link.SendFault.TheVariants.{Full, Closed, Failed}
use Rattle.duct.specs.Told.{Told}
use Rattle.duct.specs.Polls.{has_closed}

abbrev pub send_failed : SendFault → Bool
send_failed Failed = true
send_failed _ = false

-- what a refusal tells: full exactly without room, closed exactly with room at a peer that has closed
abbrev pub RefusedFor : Told → SendFault → Type 0
RefusedFor before Full = before.room ≡ 0
RefusedFor before Closed = (0 < before.room) × (before.closed ≡ true)
RefusedFor before _ = Unit {0}

-- after a text was sent
abbrev pub with_sent : Told → List ℕ → Told
with_sent t text = record t { sent = t.sent ++ text ∷ []; room = t.room - 1 }

-- after a text was handed back
abbrev pub with_refused : Told → Told
with_refused t = record t { blocked = t.blocked || not (has_closed t.polls) }

-- a send puts the text behind those sent, where there is room and the peer is there, or hands it back
abbrev pub Sends : {R : Type 0} → Told → List ℕ → Result R (List ℕ × SendFault) → Option Told → Type 0
Sends before text (Ok _) after = (0 < before.room) × (before.closed ≡ false) × (after ≡ Some (with_sent before text))
Sends before text (Err refused) after = RefusedFor before refused.1 × (after ≡ Some (with_refused before))
