-- A phase of an act that names nothing but its client: the act is made until it can't be made any more.
use Rattle.std.specs.Prelude.{ℕ, length, Bool, not, ◌&&◌, if◌then◌else◌}
use Rattle.app_model.specs.App.{App}
use Rattle.rounds_model.specs.Rounds.{made}
use Rattle.world_model.specs.declared.events.Act.{Act}
use Rattle.world_model.specs.declared.events.Answer.TheVariants as answer
use Rattle.world_model.specs.Conn.{Conn, is_full}
use Rattle.world_model.specs.Acts.{enabled, is_of_session, is_queue_full, is_done}
use Rattle.world_rounds_laws.specs.Repeats.{IsRepeated}
use Rattle.world_rounds_laws.specs.RepeatsLaws.{again}
use Rattle.world_rounds_laws.specs.Visits.{Side, act_on}

-- ---- an act that is made is enabled, and leaves less

abbrev pub done_if : Conn → Act → Bool → Bool
done_if c a b = is_done
    (if not b then answer.Idle else
    (if is_of_session a && is_full c then answer.JournalFull else (if is_queue_full c a then answer.QueueFull else answer.Done)))

-- ---- the acts

-- how many there may be
abbrev pub waiting_in : Side → ℕ
waiting_in x = length x.conn.client.waiting

abbrev pub upward_in : Side → ℕ
upward_in x = length x.conn.upward

abbrev pub queue_in : Side → ℕ
queue_in x = length x.conn.queue

abbrev pub outbox_in : Side → ℕ
outbox_in x = length x.conn.outbox

abbrev pub downward_in : Side → ℕ
downward_in x = length x.conn.downward

-- ---- the phases

-- the act was made again and again since the phase began
abbrev pub IsLoop : App → (Side → ℕ) → Act → Side → Side → Type 0
IsLoop app count a first now = IsRepeated (act_on app) count a first now
