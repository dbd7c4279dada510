-- A console over a link that a heart watches: it runs as over any link, and what was done with the link keeps time.
use Rattle.std.specs.Prelude.{◌≡◌, ℕ, List, Bool, false, Option, None, Some}
use Rattle.duct.specs.Calls.{Call}
use Rattle.app_model.specs.App.{App}
use Rattle.timed_link.specs.Timed.{Timed, TimedStep}
use Rattle.timed_link.specs.Times.{KeepsTime, times_of}
use Rattle.client_script.specs.declared.line.Line.{Line}
use Rattle.client_script.specs.declared.end.ConsoleEnd.{ConsoleEnd}
use Rattle.client_script.specs.declared.end.ConsoleEnd.TheVariants as ended
use Rattle.client_script.specs.Ends.{is_link_fault, is_write_fault}
use Rattle.console_run.specs.declared.timing.TimedConsole.{TimedConsole}
use Rattle.console_run.specs.declared.timing.TimedConsole.TheVariants as timed
use Rattle.console_run.specs.Console.{Consoles}

-- a server that was given up is one that has closed, to the script
abbrev pub ComesTo : Option (ℕ × ℕ) → ConsoleEnd → TimedConsole → Type 0
ComesTo None end result = result ≡ timed.Ended end
ComesTo (Some moments) end result = (end ≡ ended.Closed) × (result ≡ timed.Timeout moments.0 moments.1)

abbrev pub is_timed_link_fault : TimedConsole → Bool
is_timed_link_fault (timed.Ended end) = is_link_fault end
is_timed_link_fault (timed.Timeout pinged now) = false

abbrev pub is_timed_write_fault : TimedConsole → Bool
is_timed_write_fault (timed.Ended end) = is_write_fault end
is_timed_write_fault (timed.Timeout pinged now) = false

module _ {L C : Type 0} (steps : L → Call → L → Type 0) (told : C → Option (List ℕ)) where
  pub record ConsolesTimed (app : App) (script : List Line) (link : Timed L C) (held : Option (List ℕ)) (link' : Timed L C) (held' : Option (List ℕ))
      (result : TimedConsole) : Type 0 where
    pub end : ConsoleEnd
    pub consoles : Consoles (TimedStep steps told) app script link held link' held' end
    pub time : KeepsTime steps told (times_of link.watch) link consoles.calls link'
    pub comes : ComesTo link'.watch.given_up end result
