-- What the command `beat` writes for an input. The heart begins at the moment of the first line. Each tick writes a line that says
-- what is to be done; once the heart is over each line writes `["idle"]`. The events before the first line that isn't of the
-- grammar count; then that line is named. Blank lines are passed over.
use Rattle.std.specs.Prelude.{ℕ, List, [], ◌∷◌, ◌++◌, Option, codes, if◌then◌else◌}
use Rattle.value_model.specs.Val.{Val}
use Rattle.heartbeat.specs.declared.heart.Beat.{Beat}
use Rattle.heartbeat.specs.declared.heart.Beat.TheVariants.{Nothing, Ping, Close}
use Rattle.heartbeat.specs.Beats.{Event, History, Times, heard, ticked, handed, beat, is_over}
use Rattle.checking.specs.Input.{lines_in}
use Rattle.checking.specs.Output.{line, bytes_of, bad_lines}
use Rattle.checking.specs.Walk.{read_to_bad, bad_from}
use Rattle.beating.specs.Lines.{event_of}

-- ---- the lines of an input

-- the events of these lines, up to the first line that is none
abbrev pub events_of : List (List ℕ) → List Event
events_of ls = read_to_bad event_of ls

-- the number of the first line that is no event, counted from n
abbrev pub bad_line : ℕ → List (List ℕ) → Option ℕ
bad_line n ls = bad_from event_of n ls

-- ---- what is written

abbrev pub word_of : Beat → List ℕ
word_of Nothing = codes "none"
word_of Ping = codes "ping"
word_of (Close pinged now) = codes "close"

abbrev pub idle : Val
idle = line (codes "idle") []

-- what an event behind this history writes
abbrev pub said_behind : Times → History → Event → List Val
said_behind times past (heard t) = if is_over times past then idle ∷ [] else []
said_behind times past (ticked t) = if is_over times past then idle ∷ [] else line (word_of (beat times past t)) [] ∷ []

-- the history with one more event, where the heart isn't over
abbrev pub going_on : Times → History → Event → History
going_on times past e = if is_over times past then past else e ∷ past

-- what events behind this history write
abbrev pub said_of : Times → History → List Event → List Val
said_of times past [] = []
said_of times past (e ∷ events) = said_behind times past e ++ said_of times (going_on times past e) events

abbrev pub said_from : ℕ → ℕ → List Event → List Val
said_from interval timeout [] = []
said_from interval timeout (e ∷ events) = said_of (record { interval = interval; timeout = timeout; start = handed e }) [] (e ∷ events)

-- the number of the first line that isn't of the grammar
abbrev pub beat_bad : List ℕ → Option ℕ
beat_bad input = bad_line 1 (lines_in input)

-- the whole output for an input
abbrev pub beat_text : ℕ → ℕ → List ℕ → List ℕ
beat_text interval timeout input = bytes_of (said_from interval timeout (events_of (lines_in input)) ++ bad_lines (beat_bad input))
