-- A link in memory: the texts that it gives are settled when it is made, and nobody takes what is sent on it.
use Rattle.std.specs.Prelude.{◌≡◌, ℕ, zero, suc, ◌+◌, ◌++◌, Bool, false, List, [], ◌∷◌, length, drop, if◌then◌else◌}
use Rattle.duct.specs.declared.link.Polled.{Polled}
use Rattle.duct.specs.declared.link.Polled.TheVariants.{Failed, Memory}
use Rattle.duct.specs.Told.{Told}
use Rattle.duct.specs.Polls.{next_of, polled}
use Rattle.duct.specs.Schedules.{fails_after}

-- what its polls give: the texts, whether the peer closes behind them, the numbers of the polls that fail
pub record Script : Type 0 where
  pub texts : List (List ℕ)
  pub closed : Bool
  pub failing : List ℕ

-- how many of the first polls did not fail
abbrev pub given : Script → ℕ → ℕ
given s zero = 0
given s (suc polls) = if fails_after s.failing polls then given s polls else given s polls + 1

-- what the poll behind so many answers, where there is memory
abbrev pub answer_after : Script → ℕ → Polled
answer_after s polls = if fails_after s.failing polls then Failed else next_of (drop (given s polls) s.texts) s.closed

-- the answers of the first polls
abbrev pub answers : Script → ℕ → List Polled
answers s zero = []
answers s (suc polls) = answers s polls ++ answer_after s polls ∷ []

pub record Line : Type 0 where
  pub told : Told
  pub failing_polls : List ℕ
  pub failing_sends : List ℕ
  -- how many texts were offered
  pub sends : ℕ
  pub faults : ℕ

-- a new one: these texts wait, and it takes as many as its capacity
abbrev pub new_line : List (List ℕ) → Bool → ℕ → List ℕ → List ℕ → Line
new_line waiting closed capacity polls sends = record {
  told = record { waiting = waiting; closed = closed; polls = []; sent = []; room = capacity; blocked = false };
  failing_polls = polls;
  failing_sends = sends;
  sends = 0;
  faults = 0;
}

-- what a poll answers: the scheduled failure, or what is next; memory may be refused
abbrev pub LineAnswers : Line → Polled → Type 0
LineAnswers l Memory = Unit {0}
LineAnswers l answer = answer ≡ (if fails_after l.failing_polls (length l.told.polls) then Failed else next_of l.told.waiting l.told.closed)

-- after a poll with this answer
abbrev pub line_polled : Line → Polled → Line
line_polled l Memory = l
line_polled l Failed = record l { told = record l.told { polls = l.told.polls ++ Failed ∷ [] }; faults = l.faults + 1 }
line_polled l answer = record l { told = polled l.told answer }
