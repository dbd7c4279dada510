-- How far a run was at the places of its history, by when it began and when it let the next message be handled. A place counts the entries up to it.
use Rattle.std.specs.Prelude.{◌≡◌, ℕ, ◌≤◌, List, length, Bool, false, nat_le, Option, None, Some, is_some, option_map, option_and_then, IfSome, if◌then◌else◌}
use Rattle.std.specs.Ordering.{eq_by_cmp}
use Rattle.map_model.specs.Maps.{at}
use Rattle.program_steps.specs.declared.outcome.Status.{Status}
use Rattle.program_steps.specs.Runs.{End}
use Rattle.history_model.specs.declared.entry.Entry.{Entry}
use Rattle.history_model.specs.History.{Programs, RunKey, run_cmp, Begun, end_of, held, status_at}

-- the places at which a run began and let the next message be handled, and how far it is now
pub record Life : Type 0 where
  pub begun : ℕ
  pub unblocked : Option ℕ
  pub now : Begun

-- the place is there, and no later one
abbrev pub is_by : ℕ → Option ℕ → Bool
is_by place None = false
is_by place (Some p) = nat_le p place

abbrev pub end_by : ℕ → Begun → Option End
end_by place b = if nat_le b.at place then end_of b else None

abbrev pub told : Bool → Option End → Status
told unblocked ended = record { unblocked = unblocked; ended = ended }

-- how far the run was at a place, None where it had not begun
abbrev pub status_by : ℕ → Life → Option Status
status_by place l = if nat_le l.begun place then Some (told (is_by place l.unblocked) (end_by place l.now)) else None

-- the lives of runs, by their calls
abbrev pub Lives : Type 0
Lives = RunKey → Option Life

-- what the places of a life are, in a history of so many entries
pub record IsLife (entries : ℕ) (l : Life) : Type 0 where
  pub begun : l.begun ≤ entries
  pub unblocked : IfSome l.unblocked (λ p. p ≤ entries)
  pub free : l.now.run.unblocked ≡ is_some l.unblocked
  pub at : l.now.at ≤ entries

-- the lives are those of the history's runs
pub record AreLives (app : Programs) (history : List Entry) (lives : Lives) : Type 0 where
  pub now : (key : RunKey) → option_map (λ (l : Life). l.now) (lives key) ≡ at run_cmp (held app history).runs key
  pub are : (key : RunKey) → IfSome (lives key) (IsLife (length history))
  pub places : (place : ℕ) → place ≤ length history → (key : RunKey) → option_and_then (status_by place) (lives key) ≡ status_at app history place key.0 key.1

-- another call's life, or one that has gone on
abbrev pub put : Lives → RunKey → Life → Lives
put lives key l q = if eq_by_cmp run_cmp q key then Some l else lives q

-- the place at which the next message was let be handled: the present one, where that was not so before
abbrev pub noted : Option ℕ → Bool → ℕ → Option ℕ
noted (Some p) free now = Some p
noted None free now = if free then Some now else None
