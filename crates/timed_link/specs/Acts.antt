-- What is done with a link that a heart watches: the link is polled, each time right behind a question to a clock; texts of its owner
-- are offered to it; and so is a `ping`, where the heart says so.
use Rattle.std.specs.Prelude.{◌≡◌, ℕ, suc, zero, List, [], ◌∷◌, ◌++◌, Option, Some, codes}
use Rattle.duct.specs.declared.link.Polled.{Polled}
use Rattle.duct.specs.declared.link.Polled.TheVariants.{Message}
use Rattle.duct.specs.Calls.{Call, heard, said, handed_back}

-- the clock answered this moment, and then the link was polled with this answer; the owner's text was offered; a `ping` was offered
pub data Act : Type 0 where
  polled : ℕ → Polled → Act
  offered : Call → Act
  pinged : Call → Act

-- the calls of the link
abbrev pub calls_in : List Act → List Call
calls_in [] = []
calls_in (polled t answer ∷ acts) = heard answer ∷ calls_in acts
calls_in (offered call ∷ acts) = call ∷ calls_in acts
calls_in (pinged call ∷ acts) = call ∷ calls_in acts

-- the calls without those that offered a `ping`
abbrev pub own_calls : List Act → List Call
own_calls [] = []
own_calls (polled t answer ∷ acts) = heard answer ∷ own_calls acts
own_calls (offered call ∷ acts) = call ∷ own_calls acts
own_calls (pinged call ∷ acts) = own_calls acts

-- what the clock answered
abbrev pub moments_in : List Act → List ℕ
moments_in [] = []
moments_in (polled t answer ∷ acts) = t ∷ moments_in acts
moments_in (act ∷ acts) = moments_in acts

-- how often a `ping` was offered
abbrev pub pings_in : List Act → ℕ
pings_in [] = zero
pings_in (pinged call ∷ acts) = suc (pings_in acts)
pings_in (act ∷ acts) = pings_in acts

-- `ping` without an id (Meteor's DDP.md, "Heartbeats")
abbrev pub ping : List ℕ
ping = codes "{\"msg\":\"ping\"}"

-- the call offers this text
abbrev pub IsOffer : List ℕ → Call → Type 0
IsOffer text (heard answer) = ⊥
IsOffer text (said given) = given ≡ text
IsOffer text (handed_back given fault) = given ≡ text

abbrev pub ArePings : List Act → Type 0
ArePings [] = Unit {0}
ArePings (pinged call ∷ acts) = IsOffer ping call × ArePings acts
ArePings (act ∷ acts) = ArePings acts

-- the calls that gave a text, took one or handed one back: all but the polls that gave none
abbrev pub with_texts : List Call → List Call
with_texts [] = []
with_texts (heard (Message text) ∷ calls) = heard (Message text) ∷ with_texts calls
with_texts (heard answer ∷ calls) = with_texts calls
with_texts (call ∷ calls) = call ∷ with_texts calls

-- where the answers of a clock are known afterwards, they were known before, and there are these more
abbrev pub HasTold : Option (List ℕ) → Option (List ℕ) → List ℕ → Type 0
HasTold before after answers = (now : List ℕ) → after ≡ Some now → (old : List ℕ) × (before ≡ Some old) × (old ++ answers ≡ now)
