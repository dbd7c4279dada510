-- One end of a ring that carries texts both ways between two threads.
use Rattle.std.specs.Prelude.{◌≡◌, ℕ, ◌+◌, ◌≤◌, ◌++◌, Bool, true, false, List, [], ◌∷◌, Result, Ok, Err}
use mathlib.Core.List.{IsPrefix}
use Rattle.std.specs.declared.alloc.Global.{Global}
use denote.RawPtr.{Ptr}
use Rattle.duct.specs.declared.link.Polled.{Polled}
use Rattle.duct.specs.declared.link.Polled.TheVariants.{Message, Quiet, Closed}
use Rattle.duct.specs.declared.link.SendFault.{SendFault}
use Rattle.duct.specs.declared.link.SendFault.TheVariants.{Full}
use Rattle.duct.specs.Calls.{Call, heard, said, handed_back}

-- which one of all the ways that items go through rings: where its memory lies, and its names in proofs
pub record Way : Type 0 where
  pub words : Ptr
  pub slots : Ptr
  pub names : ℕ × (ℕ × ℕ)
  pub heap : Global

pub record RingEnd : Type 0 where
  -- the way out, and the way in
  pub out : Way
  pub inn : Way
  -- the texts sent and the texts taken at this end
  pub sent : List (List ℕ)
  pub taken : List (List ℕ)
  -- the texts known to wait here, the oldest first
  pub known : List (List ℕ)
  -- how many places are known to be free for texts of this end
  pub slots : ℕ
  -- whether this end has put its mark, and whether it has taken the peer's
  pub closed : Bool
  pub ended : Bool

-- the two ends of one ring
abbrev pub AreEnds : RingEnd → RingEnd → Type 0
AreEnds a b = (a.out ≡ b.inn) × (b.out ≡ a.inn)

-- what a call leaves as it is: so the two ends of one ring stay its ends
abbrev pub SameWays : RingEnd → RingEnd → Type 0
SameWays before after = (after.out ≡ before.out) × (after.inn ≡ before.inn)

-- an end of a new ring
abbrev pub new_end : Way → Way → ℕ → RingEnd
new_end out inn capacity = record { out = out; inn = inn; sent = []; taken = []; known = []; slots = capacity; closed = false; ended = false }

-- its calls never fail
abbrev pub no_faults : RingEnd → ℕ
no_faults e = 0

-- a poll gives the oldest text that is known to wait; quiet comes only where none is known, closed only with the peer's mark
abbrev pub RingPolls : RingEnd → Polled → RingEnd → Type 0
RingPolls before (Message text) after =
    (before.ended ≡ false) × IsPrefix before.known (text ∷ after.known) × (after ≡ record before { taken = before.taken ++ text ∷ []; known = after.known })
RingPolls before Quiet after = (before.ended ≡ false) × (before.known ≡ []) × (after ≡ before)
RingPolls before Closed after = (before.known ≡ []) × (after ≡ record before { ended = true })
RingPolls before _ after = ⊥

-- a send puts the text behind those sent; full, the only refusal, comes only where no place is known to be free
abbrev pub RingSends : {R : Type 0} → RingEnd → List ℕ → Result R (List ℕ × SendFault) → RingEnd → Type 0
RingSends before text (Ok _) after =
    (before.closed ≡ false) × (before.slots ≤ after.slots + 1) × (after ≡ record before { sent = before.sent ++ text ∷ []; slots = after.slots })
RingSends before text (Err refused) after = (refused ≡ (text, Full)) × (before.slots ≡ 0) × (after ≡ before)

-- what one call makes of an end
abbrev pub RingMakes : RingEnd → Call → RingEnd → Type 0
RingMakes before (heard answer) after = RingPolls before answer after
RingMakes before (said text) after = RingSends {R = Unit {0}} before text (Ok tt) after
RingMakes before (handed_back text fault) after = RingSends {R = Unit {0}} before text (Err (text, fault)) after

-- an end that looked anew knows of as many free places as before, or more
abbrev pub Looks : RingEnd → RingEnd → Type 0
Looks before after = (after ≡ record before { slots = after.slots }) × (before.slots ≤ after.slots)

-- the mark stands behind the texts, and none can be sent any more
abbrev pub with_mark : RingEnd → RingEnd
with_mark e = record e { slots = 0; closed = true }

-- one thread looks at both ends: what is known to wait here is all that the other sent and this end hasn't taken
abbrev pub Beside : RingEnd → RingEnd → RingEnd → RingEnd → Type 0
Beside before after other_before other_after =
    (after ≡ record before { known = after.known }) × IsPrefix before.known after.known
    × (other_after ≡ record other_before { slots = other_after.slots }) × (other_before.slots ≤ other_after.slots)
    × (other_after.sent ≡ after.taken ++ after.known) × (after.ended ≡ true → other_after.closed ≡ true)
