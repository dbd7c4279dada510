-- What was done with a link, call by call.
use Rattle.std.specs.Prelude.{◌≡◌, ◌||◌, not, ℕ, List, [], ◌∷◌, Bool, true, false, Some, Result, Ok, Err}
use Rattle.duct.specs.declared.link.Polled.{Polled}
use Rattle.duct.specs.declared.link.Polled.TheVariants.{Message, Memory}
use Rattle.duct.specs.declared.link.SendFault.{SendFault}
use Rattle.duct.specs.Told.{Told}
use Rattle.duct.specs.Polls.{Polls, has_closed}
use Rattle.duct.specs.Sends.{Sends}

-- a poll with its answer; a text that was taken; one that was handed back
pub data Call : Type 0 where
  heard : Polled → Call
  said : List ℕ → Call
  handed_back : List ℕ → SendFault → Call

-- a send of this text with its result
abbrev pub sending : {R : Type 0} → List ℕ → Result R (List ℕ × SendFault) → Call
sending text (Ok _) = said text
sending text (Err refused) = handed_back text refused.1

module _ {L : Type 0} (steps : L → Call → L → Type 0) where
  -- these calls, one after another, lead from one state of a link to another
  abbrev pub Leads : L → List Call → L → Type 0
  Leads a [] b = b ≡ a
  Leads a (call ∷ calls) b = (m : L) × steps a call m × Leads m calls b

-- the texts that were heard
abbrev pub heard_in : List Call → List (List ℕ)
heard_in [] = []
heard_in (heard (Message text) ∷ calls) = text ∷ heard_in calls
heard_in (_ ∷ calls) = heard_in calls

-- the answers of the polls, but for want of memory
abbrev pub answers_in : List Call → List Polled
answers_in [] = []
answers_in (heard Memory ∷ calls) = answers_in calls
answers_in (heard answer ∷ calls) = answer ∷ answers_in calls
answers_in (_ ∷ calls) = answers_in calls

-- the texts that were taken
abbrev pub said_in : List Call → List (List ℕ)
said_in [] = []
said_in (said text ∷ calls) = text ∷ said_in calls
said_in (_ ∷ calls) = said_in calls

-- whether a text was handed back
abbrev pub has_refusal : List Call → Bool
has_refusal [] = false
has_refusal (handed_back text fault ∷ calls) = true
has_refusal (_ ∷ calls) = has_refusal calls

-- whether a text was handed back before a poll answered that the peer has closed; the Bool: whether one had answered so before these calls
abbrev pub blocks : Bool → List Call → Bool
blocks closed [] = false
blocks closed (heard answer ∷ calls) = blocks (closed || has_closed (answer ∷ [])) calls
blocks closed (said text ∷ calls) = blocks closed calls
blocks closed (handed_back text fault ∷ calls) = not closed || blocks closed calls

-- what one call makes of a link that tells
abbrev pub Tells : Told → Call → Told → Type 0
Tells before (heard answer) after = Polls before answer (Some after)
Tells before (said text) after = Sends {R = Unit {0}} before text (Ok tt) (Some after)
Tells before (handed_back text fault) after = Sends {R = Unit {0}} before text (Err (text, fault)) (Some after)
