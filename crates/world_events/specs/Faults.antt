-- What reading a line answers, by what the definition says.
use Rattle.std.specs.Prelude.{◌≡◌, Option, Some, None, Result, Ok, Err}
use Rattle.world_model.specs.declared.events.Event.{Event}
use Rattle.world_events.specs.declared.fault.LineFault.{LineFault}
use Rattle.world_events.specs.declared.fault.LineFault.TheVariants as line_fault

-- an Ok is what the definition says, and NotAnEvent comes only where it says nothing
abbrev pub GivesEvent : Result Event LineFault → Option Event → Type 0
GivesEvent (Ok e) answer = answer ≡ Some e
GivesEvent (Err line_fault.NotAnEvent) answer = answer ≡ None
GivesEvent (Err line_fault.Memory) answer = Unit {0}
