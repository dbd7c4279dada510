-- Serving a link that a heart watches.
use Rattle.std.specs.Prelude.{◌≡◌, ℕ, List, Option, Some, refl}
use Rattle.std.proofs.Common.{◌≢◌}
use Rattle.app_model.specs.App.{App}
use Rattle.history_model.specs.declared.entry.Entry.{Entry}
use Rattle.duct.specs.Calls.{Call}
use Rattle.timed_link.specs.Timed.{Timed, TimedStep}
use Rattle.timed_link.specs.Times.{IsFresh, times_of}
use Rattle.timed_link.specs.KeepingLaws.{keeps_time}
use Rattle.shared_store.specs.Callers.{ACaller}
use Rattle.shared_session.specs.Held.{AHeld}
use Rattle.server_connection.specs.declared.ended.Ended.{Ended}
use Rattle.server_connection.specs.declared.ended.Ended.TheVariants as ended
use Rattle.timed_connection.specs.declared.timing.TimedEnd.{TimedEnd}
use Rattle.timed_connection.specs.declared.timing.TimedEnd.TheVariants as timed
use Rattle.server_connection.specs.Ends.{Serves, IsCause, RunsAreOver}
use Rattle.timed_connection.specs.Timing.{comes_to, IsLeft, ServesTimed}

-- where the peer was given up, any end but want of memory is a timeout
pub comes_to_timeout : (end : Ended) (moments : ℕ × ℕ) → end ≢ ended.Memory → comes_to end (Some moments) ≡ timed.Timeout moments.0 moments.1
comes_to_timeout ended.PeerClosed moments n = refl
comes_to_timeout ended.VersionRefused moments n = refl
comes_to_timeout ended.LinkFault moments n = refl
comes_to_timeout ended.JournalFull moments n = refl
comes_to_timeout (ended.Foreign last) moments n = refl
comes_to_timeout ended.Memory moments n = absurd (n refl)

module _ {L C : Type 0} (steps : L → Call → L → Type 0) (told : C → Option (List ℕ)) (faults : L → ℕ) where
  pub serves_timed : (app : App) (first link : Timed L C) (caller : ACaller) (pass : List Entry) (served session : AHeld) (end : Ended)
      (result : TimedEnd) → IsFresh first.watch
      → Serves (TimedStep steps told) (λ t. faults t.link) first link served end → IsCause caller pass served end → RunsAreOver app pass served end
      → result ≡ comes_to end link.watch.given_up → IsLeft result served session
      → ServesTimed steps told faults app first link caller pass session result
  serves_timed app first link caller pass served session end result fresh serves cause runs comes left = record {
    end = end;
    served = served;
    serves = serves;
    cause = cause;
    runs = runs;
    time = keeps_time steps told (times_of first.watch) first link serves.serving.calls fresh serves.serving.leads;
    comes = comes;
    left = left;
  }
