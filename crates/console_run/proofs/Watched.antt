-- A console over a link that a heart watches.
use Rattle.std.specs.Prelude.{◌≡◌, ℕ, List, Bool, true, false, Option, None, Some, is_some, refl}
use Rattle.std.proofs.Common.{ap, sym, subst, ◌∙◌}
use Rattle.app_model.specs.App.{App}
use Rattle.duct.specs.Calls.{Call}
use Rattle.duct.specs.Told.{CountsFaults}
use Rattle.timed_link.specs.Timed.{Timed, TimedStep}
use Rattle.timed_link.specs.Times.{IsFresh, times_of}
use Rattle.timed_link.specs.KeepingLaws.{keeps_time}
use Rattle.client_script.specs.declared.line.Line.{Line}
use Rattle.client_script.specs.declared.end.ConsoleEnd.{ConsoleEnd}
use Rattle.client_script.specs.declared.end.ConsoleEnd.TheVariants as ended
use Rattle.client_script.specs.Ends.{is_closed}
use Rattle.console_run.specs.declared.timing.TimedConsole.{TimedConsole}
use Rattle.console_run.specs.declared.timing.TimedConsole.TheVariants as timed
use Rattle.console_run.specs.Console.{Consoles}
use Rattle.console_run.specs.Timing.{ComesTo, ConsolesTimed}

closed_end : (end : ConsoleEnd) → is_closed end ≡ true → end ≡ ended.Closed
closed_end ended.Closed is = refl
closed_end ended.Done is = absurd (cc is)
closed_end (ended.ServerSent n) is = absurd (cc is)
closed_end ended.Version is = absurd (cc is)
closed_end ended.LinkFault is = absurd (cc is)
closed_end ended.WriteFault is = absurd (cc is)
closed_end ended.Memory is = absurd (cc is)

pub same_faults : (failed : ConsoleEnd → Bool) (end : ConsoleEnd) (f f' : ℕ) → end ≡ ended.Closed → failed ended.Closed ≡ false →
    CountsFaults (failed end) f f' → CountsFaults false f f'
same_faults failed end f f' is none counts = subst (λ b. CountsFaults b f f') (ap failed is ∙ none) counts

module _ {L C : Type 0} (steps : L → Call → L → Type 0) (told : C → Option (List ℕ)) (app : App) (script : List Line) (link : Timed L C)
    (held : Option (List ℕ)) (link' : Timed L C) (held' : Option (List ℕ)) where
  -- to the script, a server that was given up has closed
  pub given_up_closes : (end : ConsoleEnd) (moments : ℕ × ℕ) → IsFresh link.watch →
      Consoles (TimedStep steps told) app script link held link' held' end → link'.watch.given_up ≡ Some moments → end ≡ ended.Closed
  given_up_closes end moments fresh c given =
      let time = keeps_time steps told (times_of link.watch) link link' c.calls fresh c.leads in
      closed_end end (sym c.closed ∙ time.gives_up (ap is_some given))

  pub consoles_timed : (end : ConsoleEnd) (result : TimedConsole) → IsFresh link.watch →
      Consoles (TimedStep steps told) app script link held link' held' end → ComesTo link'.watch.given_up end result
      → ConsolesTimed steps told app script link held link' held' result
  consoles_timed end result fresh c comes = record {
    end = end;
    consoles = c;
    time = keeps_time steps told (times_of link.watch) link link' c.calls fresh c.leads;
    comes = comes;
  }

  pub consoles_given_up : (end : ConsoleEnd) (pinged now : ℕ) → IsFresh link.watch →
      Consoles (TimedStep steps told) app script link held link' held' end → link'.watch.given_up ≡ Some (pinged, now)
      → ConsolesTimed steps told app script link held link' held' (timed.Timeout pinged now)
  consoles_given_up end pinged now fresh c given = consoles_timed end (timed.Timeout pinged now) fresh c
      (subst (λ (o : Option (ℕ × ℕ)). ComesTo o end (timed.Timeout pinged now)) (sym given) (given_up_closes end (pinged, now) fresh c given, refl))

  pub consoles_on : (end : ConsoleEnd) → IsFresh link.watch →
      Consoles (TimedStep steps told) app script link held link' held' end → link'.watch.given_up ≡ None
      → ConsolesTimed steps told app script link held link' held' (timed.Ended end)
  consoles_on end fresh c none = consoles_timed end (timed.Ended end) fresh c
      (subst (λ (o : Option (ℕ × ℕ)). ComesTo o end (timed.Ended end)) (sym none) refl)
