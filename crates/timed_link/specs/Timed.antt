-- A link that a heart watches, and what its calls are of the link itself.
use Rattle.std.specs.Prelude.{◌≡◌, ◌⊎◌, ℕ, List, [], ◌∷◌, true, Option, is_some, Result, Ok, Err}
use Rattle.duct.specs.declared.link.Polled.{Polled}
use Rattle.duct.specs.declared.link.Polled.TheVariants as polled
use Rattle.duct.specs.declared.link.SendFault.{SendFault}
use Rattle.duct.specs.declared.link.SendFault.TheVariants as fault
use Rattle.duct.specs.Calls.{Call, Leads, answers_in}
use Rattle.duct.specs.Polls.{has_closed}
use Rattle.timed_link.specs.Acts.{Act, calls_in, own_calls, moments_in, pings_in, ArePings, with_texts, HasTold}
use Rattle.timed_link.specs.Watch.{Watch, all_after, pings_due, MayAll}

pub record Timed (L C : Type 0) : Type 0 where
  pub link : L
  pub clock : C
  pub watch : Watch

-- steps: what one call makes of the link; told: what is known of the clock's answers
module _ {L C : Type 0} (steps : L → Call → L → Type 0) (told : C → Option (List ℕ)) where
  -- these calls of a timed link, by what was done with the link within
  pub record Within (a : Timed L C) (calls : List Call) (b : Timed L C) : Type 0 where
    pub acts : List Act
    pub leads : Leads steps a.link (calls_in acts) b.link
    pub asked : HasTold (told a.clock) (told b.clock) (moments_in acts)
    pub watch : b.watch ≡ all_after a.watch acts
    pub may : MayAll a.watch acts
    -- a `ping` was offered as often as the heart asked for one
    pub pings : ArePings acts
    pub due : pings_in acts ≡ pings_due a.watch acts
    -- the texts are those of the link but for the pings; the timed link answers that the peer has closed where the link does, or the peer is given up
    pub texts : with_texts (own_calls acts) ≡ with_texts calls
    pub closed : has_closed (answers_in calls) ≡ true → (has_closed (answers_in (own_calls acts)) ≡ true) ⊎ (is_some b.watch.given_up ≡ true)
    pub told_on : has_closed (answers_in (own_calls acts)) ≡ true → has_closed (answers_in calls) ≡ true
    pub gives_up : is_some b.watch.given_up ≡ true → (is_some a.watch.given_up ≡ true) ⊎ (has_closed (answers_in calls) ≡ true)

  -- one call of a timed link
  abbrev pub TimedStep : Timed L C → Call → Timed L C → Type 0
  TimedStep a call b = Within a (call ∷ []) b

-- ---- a poll behind which a `ping` is offered

-- what the poll answers then: a text that is handed back since the link is full, or its peer has closed, is no failure
abbrev pub refusal_answer : SendFault → Polled
refusal_answer fault.Failed = polled.Failed
refusal_answer fault.Memory = polled.Memory
refusal_answer cause = polled.Quiet

abbrev pub answered : {R : Type 0} → Result R (List ℕ × SendFault) → Polled
answered (Ok done) = polled.Quiet
answered (Err refused) = refusal_answer refused.1
