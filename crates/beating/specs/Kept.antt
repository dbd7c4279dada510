-- What the command writes, by what a heart keeps of its history.
use Rattle.std.specs.Prelude.{ℕ, List, [], ◌∷◌, ◌++◌, Option, Some, None, if◌then◌else◌}
use Rattle.value_model.specs.Val.{Val}
use Rattle.heartbeat.specs.Beats.{Event, heard, ticked, handed}
use Rattle.heartbeat.specs.Pulse.{Pulse, pulse_of, pulse_heard, pulse_beat, pulse_ticked}
use Rattle.checking.specs.Output.{line}
use Rattle.beating.specs.Run.{word_of, idle}

-- what an event writes
abbrev pub said : Pulse → Event → List Val
said p (heard t) = if p.is_over then idle ∷ [] else []
said p (ticked t) = if p.is_over then idle ∷ [] else line (word_of (pulse_beat p t)) [] ∷ []

-- what a heart keeps after it
abbrev pub after : Pulse → Event → Pulse
after p (heard t) = if p.is_over then p else pulse_heard p t
after p (ticked t) = if p.is_over then p else pulse_ticked p t (pulse_beat p t)

abbrev pub all_said : Pulse → List Event → List Val
all_said p [] = []
all_said p (e ∷ events) = said p e ++ all_said (after p e) events

-- the heart that is there, or one that begins with this event
abbrev pub begun : ℕ → ℕ → Option Pulse → Event → Pulse
begun interval timeout None e = pulse_of (record { interval = interval; timeout = timeout; start = handed e }) []
begun interval timeout (Some p) e = p

-- what events write where there is this heart, or none yet
abbrev pub said_by : ℕ → ℕ → Option Pulse → List Event → List Val
said_by interval timeout heart [] = []
said_by interval timeout heart (e ∷ events) = all_said (begun interval timeout heart e) (e ∷ events)
