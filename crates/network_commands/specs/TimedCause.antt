-- When each status of a run over links that hearts watch comes, and what was read and written then.
use Rattle.std.specs.Prelude.{◌≡◌, ℕ, ◌⊎◌, List, [], Option, None, Some, IfSome}
use Rattle.io_edge.specs.Outside.{Grows}
use Rattle.app_model.specs.App.{App}
use Rattle.commands.specs.declared.status.Status.{Status}
use Rattle.commands.specs.declared.status.Status.TheVariants as status
use Rattle.duct.specs.Calls.{Call}
use Rattle.heartbeat.specs.Clocks.{Answers}
use Rattle.timed_link.specs.Timed.{Timed}
use Rattle.client_script.specs.declared.line.Line.{Line}
use Rattle.console_run.specs.declared.timing.TimedConsole.{TimedConsole}
use Rattle.console_run.specs.declared.timing.TimedConsole.TheVariants as timed
use Rattle.console_run.specs.Timing.{ConsolesTimed, is_timed_link_fault}
use Rattle.network_commands.specs.declared.command.TimedCommand.{TimedCommand}
use Rattle.network_commands.specs.Words.{timed_command_in}
use Rattle.network_commands.specs.Cause.{Outside, ComesTo, RunsScript, HasNoLink, CauseOf, RunCause}

-- the status for the end of a script, and what was written behind it: where the server was given up nothing was
abbrev pub TimedComesTo : TimedConsole → Option (List ℕ) → Option (List ℕ) → Status → Type 0
TimedComesTo (timed.Ended end) written now s = ComesTo end written now s
TimedComesTo (timed.Timeout pinged moment) written now s = (s ≡ status.Timeout) × Grows written now []

-- `told` is what is known of a clock's answers
module _ {L C : Type 0} (told : C → Option (List ℕ)) where
  -- a heart with these times watches the link, from the first moment on that a clock told which had not been asked before
  pub record IsWatched (interval timeout : ℕ) (link : Timed L C) : Type 0 where
    pub clock : C
    pub unasked : IfSome (told clock) (λ answers. answers ≡ [])
    pub start : Answers (told clock) (told link.clock) link.watch.heart.latest
    pub asks : link.watch.heart.interval ≡ interval
    pub ends : link.watch.heart.timeout ≡ timeout

-- `steps` is what the calls of a link are
module _ {L C : Type 0} (steps : L → Call → L → Type 0) (told : C → Option (List ℕ)) where
  -- a script ran over a link that a heart with these times watched
  pub record Watches (interval timeout : ℕ) (app : App) (script : List Line) (link : Timed L C) (held : Option (List ℕ)) (link' : Timed L C)
      (held' : Option (List ℕ)) (end : TimedConsole) : Type 0 where
    pub watched : IsWatched told interval timeout link
    pub ran : ConsolesTimed steps told app script link held link' held' end

  -- `faults`: how many calls of a link have failed
  module _ (faults : L → ℕ) where
    -- the script of a console
    abbrev pub TimedTalks : ℕ → ℕ → App → List Line → Outside → Outside → Status → Type 0
    TimedTalks interval timeout app script before now s =
        RunsScript (Watches interval timeout) is_timed_link_fault TimedComesTo (λ l. faults l.link) app script before now s ⊎ HasNoLink before now s

    -- The cause of a status of a run: that of the command which the words name. Where they name none whose links hearts watch, it is that of any other run.
    abbrev pub TimedCauseOf : Option TimedCommand → List (List ℕ) → Option (List ℕ) → Option (List ℕ) → Outside → Outside → Status → Type 0
    TimedCauseOf (Some c) words left rest before now s = CauseOf (TimedTalks c.interval c.timeout) c.command left rest before now s
    TimedCauseOf None words left rest before now s = RunCause steps faults words left rest before now s

    abbrev pub TimedCause : List (List ℕ) → Option (List ℕ) → Option (List ℕ) → Outside → Outside → Status → Type 0
    TimedCause words left rest before now s = TimedCauseOf (timed_command_in words) words left rest before now s
