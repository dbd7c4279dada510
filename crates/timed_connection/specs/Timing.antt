-- How serving ends over a link that a heart watches: it is served as any link is, and what was done with it keeps time.
use Rattle.std.specs.Prelude.{◌≡◌, ℕ, List, Option, None, Some}
use Rattle.app_model.specs.App.{App}
use Rattle.history_model.specs.declared.entry.Entry.{Entry}
use Rattle.duct.specs.Calls.{Call}
use Rattle.timed_link.specs.Timed.{Timed, TimedStep}
use Rattle.timed_link.specs.Times.{KeepsTime, times_of}
use Rattle.shared_store.specs.Callers.{ACaller}
use Rattle.shared_session.specs.Held.{AHeld}
use Rattle.shared_session.specs.Events.{ClosesHeld}
use Rattle.server_connection.specs.declared.ended.Ended.{Ended}
use Rattle.server_connection.specs.declared.ended.Ended.TheVariants as ended
use Rattle.timed_connection.specs.declared.timing.TimedEnd.{TimedEnd}
use Rattle.timed_connection.specs.declared.timing.TimedEnd.TheVariants as timed
use Rattle.server_connection.specs.Ends.{Serves, IsCause, RunsAreOver}

-- what an end of serving comes to: where the peer was given up, and memory was not refused behind that, it is a timeout
abbrev pub comes_to : Ended → Option (ℕ × ℕ) → TimedEnd
comes_to end None = timed.Ended end
comes_to ended.Memory (Some moments) = timed.Ended ended.Memory
comes_to end (Some moments) = timed.Timeout moments.0 moments.1

-- a session is closed at a timeout
abbrev pub IsLeft : TimedEnd → AHeld → AHeld → Type 0
IsLeft (timed.Timeout pinged now) h h' = ClosesHeld h h'
IsLeft (timed.Ended end) h h' = h' ≡ h

module _ {L C : Type 0} (steps : L → Call → L → Type 0) (told : C → Option (List ℕ)) (faults : L → ℕ) where
  pub record ServesTimed (app : App) (first link : Timed L C) (caller : ACaller) (pass : List Entry) (session : AHeld) (result : TimedEnd) : Type 0 where
    -- how serving ended, and the session then
    pub end : Ended
    pub served : AHeld
    pub serves : Serves (TimedStep steps told) (λ t. faults t.link) first link served end
    pub cause : IsCause caller pass served end
    pub runs : RunsAreOver app pass served end
    pub time : KeepsTime steps told (times_of first.watch) first serves.serving.calls link
    pub comes : result ≡ comes_to end link.watch.given_up
    pub left : IsLeft result served session
