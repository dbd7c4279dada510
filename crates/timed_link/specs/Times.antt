-- A link that a heart watched, by the history of the heart.
use Rattle.std.specs.Prelude.{◌≡◌, ◌⊎◌, ℕ, zero, ◌+◌, List, [], ◌∷◌, true, false, Option, Some, None, is_some}
use Rattle.duct.specs.declared.link.Polled.TheVariants.{Message, Quiet}
use Rattle.duct.specs.Calls.{Call, Leads, answers_in}
use Rattle.duct.specs.Polls.{has_closed}
use Rattle.heartbeat.specs.declared.heart.Beat.TheVariants.{Close}
use Rattle.heartbeat.specs.Beats.{IsTime, Times, History, heard, ticked, beat, is_over}
use Rattle.heartbeat.specs.Pulse.{pulse_of}
use Rattle.timed_link.specs.Acts.{Act, polled, calls_in, own_calls, moments_in, pings_in, ArePings, with_texts, HasTold}
use Rattle.timed_link.specs.Watch.{Watch, pings_by}
use Rattle.timed_link.specs.Timed.{Timed}

-- a heart that has no history yet
abbrev pub IsNew : Times → Watch → Type 0
IsNew times w = IsTime times.interval × IsTime times.timeout × (w.heart ≡ pulse_of times []) × (w.given_up ≡ None)

-- the times of such a heart
abbrev pub times_of : Watch → Times
times_of w = record { interval = w.heart.interval; timeout = w.heart.timeout; start = w.heart.latest }

abbrev pub IsFresh : Watch → Type 0
IsFresh w = IsNew (times_of w) w

-- behind what was before, each poll that gave a text makes a text that came, and each one that gave a text or none a tick, with the
-- moment that the clock answered right before
abbrev pub history_behind : History → List Act → History
history_behind past [] = past
history_behind past (polled t (Message text) ∷ acts) = history_behind (ticked t ∷ heard t ∷ past) acts
history_behind past (polled t Quiet ∷ acts) = history_behind (ticked t ∷ past) acts
history_behind past (act ∷ acts) = history_behind past acts

abbrev pub history_of : List Act → History
history_of acts = history_behind [] acts

-- how many ticks of the history ask for a `ping`
abbrev pub pings_of : Times → History → ℕ
pings_of times [] = zero
pings_of times (heard t ∷ past) = pings_of times past
pings_of times (ticked t ∷ past) = pings_by (beat times past t) + pings_of times past

-- where the peer was given up, the last event of the history is a tick with these two moments, the only one that closes; and else none does
abbrev pub GivesUp : Times → History → Option (ℕ × ℕ) → Type 0
GivesUp times past None = is_over times past ≡ false
GivesUp times (ticked t ∷ past) (Some moments) = (is_over times past ≡ false) × (beat times past t ≡ Close moments.0 moments.1)
GivesUp times past (Some moments) = ⊥

module _ {L C : Type 0} (steps : L → Call → L → Type 0) (told : C → Option (List ℕ)) where
  -- These calls of a timed link, which was new before, kept time: a `ping` was offered to the link once for each tick that asks for one, and its owner's texts
  -- went through, as if there were no heart
  pub record KeepsTime (times : Times) (a : Timed L C) (calls : List Call) (b : Timed L C) : Type 0 where
    pub acts : List Act
    pub leads : Leads steps a.link (calls_in acts) b.link
    pub asked : HasTold (told a.clock) (told b.clock) (moments_in acts)
    pub pings : ArePings acts
    pub due : pings_in acts ≡ pings_of times (history_of acts)
    pub ends : GivesUp times (history_of acts) b.watch.given_up
    pub texts : with_texts (own_calls acts) ≡ with_texts calls
    -- the timed link answered that the peer has closed where the link did, and where the peer was given up
    pub closed : has_closed (answers_in calls) ≡ true → (has_closed (answers_in (own_calls acts)) ≡ true) ⊎ (is_some b.watch.given_up ≡ true)
    pub told_on : has_closed (answers_in (own_calls acts)) ≡ true → has_closed (answers_in calls) ≡ true
    pub gives_up : is_some b.watch.given_up ≡ true → has_closed (answers_in calls) ≡ true
