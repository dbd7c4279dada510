-- How far the live subscriptions are.
use Rattle.std.specs.Prelude.{ℕ, ◌==◌, List, [], ◌∷◌, Bool, false, not, ◌&&◌, ◌||◌, Option, Some, None, is_none, if◌then◌else◌}
use Rattle.session_model.specs.Subscriptions.{Live}
use Rattle.session_model.specs.Methods.{Phase, finished}
use Rattle.session_journal_laws.specs.Fired.{is_reached, lesser, least_with, is_opening}
use Rattle.session_state.specs.declared.progress.Progress.{Progress}

abbrev pub progress_of : List Live → Progress
progress_of ls = record { least = least_with None ls; opening = is_opening ls }

-- the same, one after another
abbrev pub nowhere : Progress
nowhere = record { least = None; opening = false }

abbrev pub with_cursor : Progress → Option ℕ → Progress
with_cursor p cursor = record { least = lesser p.least cursor; opening = p.opening || is_none cursor }

abbrev pub progress_with : Progress → List Live → Progress
progress_with p [] = p
progress_with p (l ∷ ls) = progress_with (with_cursor p l.cursor) ls

abbrev pub is_open_by : Progress → ℕ → Bool
is_open_by p place = not p.opening && is_reached p.least place

-- how far the call at a place is, the call of a number having ended
abbrev pub turned_phase : Option (ℕ × ℕ) → ℕ → Phase → Phase
turned_phase None n p = p
turned_phase (Some ended) n p = if ended.0 == n then finished ended.1 else p
