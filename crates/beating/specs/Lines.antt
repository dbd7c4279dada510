-- The event that a line of the command `beat` describes: `["heard",t]`, a text came at the moment t, or `["tick",t]`, it is asked
-- at t what to do. A moment is a whole number from 0 (ours).
use Rattle.std.specs.Prelude.{ℕ, ℤ, pos, negsuc, List, Option, Some, None, option_and_then, codes, if◌then◌else◌}
use Rattle.value_model.specs.Val.{Val, Vals, text, int, list, no_vals, val}
use Rattle.value_model.specs.Size.{is_name}
use Rattle.heartbeat.specs.Beats.{Event, heard, ticked}
use Rattle.checking.specs.Input.{value_in}
use Rattle.beating.specs.declared.lines.Line.{Line}
use Rattle.beating.specs.declared.lines.Line.TheVariants as line

-- the event that a line of the program is
abbrev pub event_view : Line → Event
event_view (line.Heard t) = heard t
event_view (line.Tick t) = ticked t

abbrev pub from_zero : ℤ → Option ℕ
from_zero (pos n) = Some n
from_zero (negsuc n) = None

abbrev pub moment_of : Val → Option ℕ
moment_of (int z) = from_zero z
moment_of _ = None

-- the moment that stands alone
abbrev pub moment_in : Vals → Option ℕ
moment_in (val v no_vals) = moment_of v
moment_in _ = None

abbrev pub event_named : List ℕ → ℕ → Option Event
event_named word t = if is_name word (codes "heard") then Some (heard t) else (if is_name word (codes "tick") then Some (ticked t) else None)

abbrev pub event_behind : Val → Vals → Option Event
event_behind (text word) rest = option_and_then (event_named word) (moment_in rest)
event_behind _ rest = None

abbrev pub event_in : Val → Option Event
event_in (list (val first rest)) = event_behind first rest
event_in _ = None

-- the event that a line is
abbrev pub event_of : List ℕ → Option Event
event_of l = option_and_then event_in (value_in l)
