-- What the laws say that a step keeps.
use Rattle.std.specs.Prelude.{◌≡◌, ℕ, ◌+◌, ◌≤◌, List, [], ◌∷◌, length, drop, Bool, true, false, is_some}
use Rattle.map_model.specs.Changes.{Leads}
use Rattle.ejson_value.specs.Key.{key_cmp}
use Rattle.ejson_value.specs.Rows.{Rows}
use Rattle.ejson_value.specs.Changes.{changes_of}
use Rattle.collection_store.specs.Limits.{new_bytes}
use Rattle.collection_store.specs.Answered.{AreTouched}
use Rattle.program_steps.specs.declared.step.ProgramStep.{ProgramStep}
use Rattle.program_model.specs.Run.{Run}
use Rattle.program_model.specs.Steps.{Stepped}

-- the changes lead from the rows to those that are left, at keys that are among those touched
pub record LeadsOn (rows : Rows) (s : Stepped) : Type 0 where
  pub leads : Leads key_cmp (changes_of s.changes) rows s.rows
  pub touched : AreTouched s.touched s.changes

-- what a step does to documents
pub record StepDoes (rows : Rows) (room : ℕ) (s : Stepped) : Type 0 where
  pub on : LeadsOn rows s
  pub fits : new_bytes s.changes ≤ room

abbrev pub is_over : List ProgramStep → Bool
is_over [] = true
is_over (step ∷ steps) = false

-- a run has come to something exactly where it has no step left
abbrev pub IsRun : Run → Type 0
IsRun run = is_some run.outcome ≡ is_over run.left

-- The run went on as `next`: the steps that it has left are the last of those that it had, it drew one id at most, and was called with what it was
-- called with. What it let be handled stays so.
pub record Follows (run next : Run) : Type 0 where
  pub over : IsRun next
  pub rest : (n : ℕ) × (next.left ≡ drop n run.left)
  pub left : length next.left ≤ length run.left
  pub drawn : length next.drawn ≤ length run.drawn + 1
  pub unblocked : run.unblocked ≡ true → next.unblocked ≡ true
  pub seed : next.seed ≡ run.seed
  pub params : next.params ≡ run.params
