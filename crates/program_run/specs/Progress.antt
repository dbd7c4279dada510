-- How far a run is, seen beside the program whose steps it makes.
use Rattle.std.specs.Prelude.{ℕ, List, [], drop, Bool, Option, None, Some}
use Rattle.value_model.specs.Val.{Val}
use Rattle.program_steps.specs.declared.step.ProgramStep.{ProgramStep}
use Rattle.program_steps.specs.Runs.{Outcome}
use Rattle.program_model.specs.Run.{Run}

pub record Progress : Type 0 where
  -- what the method was called with
  pub params : List Val
  -- the text that its ids are drawn from
  pub seed : List ℕ
  -- how many steps it has made
  pub next : ℕ
  -- the ids that it inserted, in order
  pub made : List (List ℕ)
  -- the collections that it drew ids for, one for each id
  pub drawn : List (List ℕ)
  pub unblocked : Bool
  -- what it came to, once it has ended
  pub outcome : Option Outcome

-- the run that has these steps still to make
abbrev pub with_left : Progress → List ProgramStep → Run
with_left p left = record { params = p.params; seed = p.seed; left = left; made = p.made; drawn = p.drawn; unblocked = p.unblocked; outcome = p.outcome }

-- a run that has ended has none
abbrev pub left_of : Option Outcome → List ProgramStep → List ProgramStep
left_of None left = left
left_of (Some outcome) left = []

-- the run of a program of these steps
abbrev pub run_of : List ProgramStep → Progress → Run
run_of steps p = with_left p (left_of p.outcome (drop p.next steps))

-- what of a run fills templates and draws ids; it is the same whatever steps are left
abbrev pub seen : Progress → Run
seen p = with_left p []
