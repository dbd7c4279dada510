-- What the command `replay` writes for an input: the first line is the application, and each further line that isn't blank is an event. The events before the
-- first line that isn't of the grammar are run, and what they print is written, a line each; then that line is named.
use Rattle.std.specs.Prelude.{ℕ, List, [], ◌∷◌, ◌++◌, flat_map, Option, Some, None, option_and_then, Ok, Err}
use Rattle.app_model.specs.App.{App}
use Rattle.program_reading.specs.Faults.{Reading}
use Rattle.app_model.specs.Reading.{app_reading}
use Rattle.world_core.specs.world_model.declared.events.Event.{Event}
use Rattle.world_core.specs.world_model.World.{World, start}
use Rattle.world_core.specs.world_model.Events.{step}
use Rattle.world_core.specs.world_model.Lines.{lines_of}
use Rattle.world_events.specs.Events.{event_in}
use Rattle.checking.specs.Input.{line_feed, lines_in, rest_of, value_in}
use Rattle.checking.specs.Output.{bytes_of, bad_lines}
use Rattle.checking.specs.Walk.{read_to_bad, bad_from}

-- ---- the lines of an input

abbrev pub read_as : Reading App → Option App
read_as (Ok app) = Some app
read_as (Err e) = None

-- the application that the first line describes
abbrev pub app_of : List (List ℕ) → Option App
app_of [] = None
app_of (l ∷ ls) = option_and_then (λ v. read_as (app_reading v)) (value_in l)

-- the event that a line is
abbrev pub event_of : List ℕ → Option Event
event_of l = option_and_then event_in (value_in l)

-- the events of these lines, up to the first line that is none
abbrev pub events_of : List (List ℕ) → List Event
events_of ls = read_to_bad event_of ls

-- the number of the first line that is no event, counted from n
abbrev pub bad_line : ℕ → List (List ℕ) → Option ℕ
bad_line n ls = bad_from event_of n ls

-- the number of the first line that isn't of the grammar
abbrev pub bad_in : Option App → List (List ℕ) → Option ℕ
bad_in None ls = Some 1
bad_in (Some app) ls = bad_line 2 ls

abbrev pub first_bad : List ℕ → Option ℕ
first_bad input = bad_in (app_of (lines_in input)) (rest_of (lines_in input))

-- ---- the lines of an output

-- what the events print, one after another
abbrev pub printed : World → List Event → List (List ℕ)
printed w [] = []
printed w (e ∷ events) = lines_of w e ++ printed (step w e) events

abbrev pub printed_by : Option App → List (List ℕ) → List (List ℕ)
printed_by None ls = []
printed_by (Some app) ls = printed (start app) (events_of ls)

-- lines as they are written
abbrev pub line_bytes : List ℕ → List ℕ
line_bytes line = line ++ line_feed ∷ []

abbrev pub all_bytes : List (List ℕ) → List ℕ
all_bytes lines = flat_map line_bytes lines

-- the whole output for an input
abbrev pub replay_text : List ℕ → List ℕ
replay_text input = all_bytes (printed_by (app_of (lines_in input)) (rest_of (lines_in input))) ++ bytes_of (bad_lines (first_bad input))
