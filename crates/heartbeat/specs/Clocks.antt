-- What a clock answered, where that is known; and clocks that go on by the same step at each question.
use Rattle.std.specs.Prelude.{◌≡◌, ℕ, zero, suc, ◌+◌, ◌*◌, ◌-◌, ◌^◌, ◌++◌, nat_lt, min, List, [], ◌∷◌, Option, Some, None, if◌then◌else◌}

-- where the answers are known afterwards, they were known before, and there is this one more
abbrev pub Answers : Option (List ℕ) → Option (List ℕ) → ℕ → Type 0
Answers before after answer =
    (now : List ℕ) → after ≡ Some now → (old : List ℕ) × (before ≡ Some old) × (old ++ answer ∷ [] ≡ now)

-- the greatest moment there is; a clock counts its questions up to this number too
abbrev pub last_moment : ℕ
last_moment = 2 ^ 64 - 1

-- the answer to the question behind so many: 0, the step, twice the step and so on
abbrev pub step_answer : ℕ → ℕ → ℕ
step_answer step asked = min (step * asked) last_moment

-- the answers to the first questions
abbrev pub step_answers : ℕ → ℕ → List ℕ
step_answers step zero = []
step_answers step (suc asked) = step_answers step asked ++ step_answer step asked ∷ []

pub record Stepping : Type 0 where
  pub step : ℕ
  -- how many questions there were
  pub asked : ℕ

-- once it was asked again
abbrev pub asked_again : Stepping → Stepping
asked_again s = record s { asked = min (s.asked + 1) last_moment }

-- its answers, up to the last question that is counted
abbrev pub told_by : Stepping → Option (List ℕ)
told_by s = if nat_lt s.asked last_moment then Some (step_answers s.step s.asked) else None
