-- A session as contracts see it, and when it takes an event.
use Rattle.std.specs.Prelude.{◌≡◌, ℕ, ◌+◌, ◌==◌, List, [], length, sum_by, nat_lt, nat_le, Bool, true, false, not, ◌&&◌, ◌||◌, Option, Some, None}
use Rattle.std.specs.Prelude.{is_none, is_some, Result, Ok, Err, if◌then◌else◌}
use Rattle.app_model.specs.App.{App}
use Rattle.program_steps.specs.declared.outcome.Status.{Status}
use Rattle.live_observer.specs.Observing.{AnObserver}
use Rattle.session_model.specs.Subscriptions.{may_load, cursor_of}
use Rattle.session_model.specs.Methods.{Phase, running, is_blocked_by, phase_at}
use Rattle.session_journal_laws.specs.Stands.{Carried, new_session as new_carried}
use Rattle.session_laws.specs.declared.fault.EventFault.{EventFault}
use Rattle.session_laws.specs.declared.fault.EventFault.TheVariants as fault

pub record ASession : Type 0 where
  pub carried : Carried
  -- for each item the id that a print of it shows, if it shows one
  pub ids : List (Option (List ℕ))
  -- for each message that waits, the place of its text among those taken, and how many bytes that text has
  pub places : List ℕ
  pub bytes : List ℕ
  -- for each live subscription its observer, once it is loaded
  pub observers : List (Option AnObserver)
  -- it was closed
  pub dropped : Bool

abbrev pub new_session : App → ℕ → ASession
new_session app number = record { carried = new_carried app number; ids = []; places = []; bytes = []; observers = []; dropped = false }

-- ---- limits

-- how many texts may wait to be sent before no further event is taken, how many messages may wait, and how many bytes their texts may have
abbrev pub max_outbox : ℕ
max_outbox = 4096

abbrev pub max_waiting : ℕ
max_waiting = 4096

abbrev pub max_bytes : ℕ
max_bytes = 4194304

abbrev pub max_items : ℕ
max_items = 262144

abbrev pub is_full : ASession → Bool
is_full s = nat_le max_items (length s.carried.journal)

-- no further message of so many bytes may wait
abbrev pub is_crowded : ASession → ℕ → Bool
is_crowded s n = (max_waiting == length s.carried.waiting) || nat_lt max_bytes (sum_by (λ (b : ℕ). b) s.bytes + n)

-- ---- which events are enabled

-- it wasn't closed and refused no version, and its outbox has room: it takes texts
abbrev pub is_at_work : ASession → Bool
is_at_work s = not s.dropped && (not s.carried.own.failed && nat_lt (length s.carried.outbox) max_outbox)

-- a message waits, and no call blocks
abbrev pub can_handle : ASession → Bool
can_handle s = is_at_work s && (not (length s.carried.waiting == 0) && is_none s.carried.own.blocking)

abbrev pub can_load : ℕ → ℕ → ASession → Bool
can_load sub place s = is_at_work s && may_load sub place s.carried.own.subs

-- the place so many entries on, where there can be such a history
abbrev pub place_on : Option ℕ → ℕ → Option ℕ
place_on None count = None
place_on (Some from) count = if (count == 0) || nat_le 18446744073709551616 (from + count) then None else Some (from + count)

-- the place that a loaded subscription comes to
abbrev pub place_after : ℕ → ℕ → ASession → Option ℕ
place_after sub count s = if is_at_work s then place_on (cursor_of sub s.carried.own.subs) count else None

abbrev pub can_advance : ℕ → ℕ → ASession → Bool
can_advance sub count s = is_some (place_after sub count s)

abbrev pub is_running : Option Phase → Bool
is_running (Some running) = true
is_running p = false

-- its run has ended, or lets the next message be handled while it blocks
abbrev pub has_news : Status → Bool → Bool
has_news status blocks = is_some status.ended || (status.unblocked && blocks)

abbrev pub can_learn : ℕ → Status → ASession → Bool
can_learn k status s = is_at_work s && (is_running (phase_at k s.carried.own.methods) && has_news status (is_blocked_by k s.carried.own.blocking))

abbrev pub can_refuse : ℕ → ASession → Bool
can_refuse k s = is_at_work s && is_blocked_by k s.carried.own.blocking

-- ---- why an event is refused

-- what the tests that come before an event answer
abbrev pub tested : Bool → ASession → Result (Unit {0}) EventFault
tested enabled s = if enabled then (if is_full s then Err fault.JournalFull else Ok tt) else Err fault.Idle

-- `Idle` comes only where the event isn't enabled, `JournalFull` only where it is and the journal is full; memory may be wanting at any time
abbrev pub IsCause : Bool → ASession → EventFault → Type 0
IsCause enabled s fault.Idle = enabled ≡ false
IsCause enabled s fault.JournalFull = (enabled ≡ true) × (is_full s ≡ true)
IsCause enabled s fault.QueueFull = ⊥
IsCause enabled s fault.Memory = Unit {0}

-- an event that is done was enabled, and the journal had room
pub record HadRoom (test : Bool) (s : ASession) : Type 0 where
  pub enabled : test ≡ true
  pub room : is_full s ≡ false

-- ---- it is closed

abbrev pub dropped : ASession → ASession
dropped s = record s { dropped = true }
