-- The moments of a store as a session sees them: after each number of entries of its history, the documents, how far the runs of the session's calls
-- are, and whether there is room
-- for more.
use Rattle.std.specs.Prelude.{ℕ, zero, suc, List, [], ◌∷◌, Bool, Option, Some, None, option_and_then}
use Rattle.value_model.specs.Val.{Val}
use Rattle.ejson_value.specs.Rows.{Rows}
use Rattle.program_steps.specs.declared.outcome.Status.{Status}
use Rattle.program_steps.specs.Runs.{End}

pub record Moment : Type 0 where
  -- the documents
  pub rows : Rows
  -- how far the run of the session's call of this number is, if it was begun
  pub run : ℕ → Option Status
  -- the history has no room for a call of this method with these parameters and this seed
  pub is_full : List ℕ → List Val → Val → Bool

-- the moment after this many entries
abbrev pub moment_at : List Moment → ℕ → Option Moment
moment_at [] place = None
moment_at (m ∷ C) zero = Some m
moment_at (m ∷ C) (suc place) = moment_at C place

abbrev pub rows_of : Option Moment → Rows
rows_of None = []
rows_of (Some m) = m.rows

abbrev pub run_of : ℕ → Option Moment → Option Status
run_of k None = None
run_of k (Some m) = m.run k

abbrev pub rows_at : List Moment → ℕ → Rows
rows_at C place = rows_of (moment_at C place)

abbrev pub run_at : List Moment → ℕ → ℕ → Option Status
run_at C place k = run_of k (moment_at C place)

-- how the run had ended at this place, if it had
abbrev pub end_at : List Moment → ℕ → ℕ → Option End
end_at C place k = option_and_then (λ (s : Status). s.ended) (run_at C place k)
