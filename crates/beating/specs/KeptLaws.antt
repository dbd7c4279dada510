-- What a heart keeps tells what its history says is written.
use Rattle.std.specs.Prelude.{◌≡◌, ℕ, true, false, cond, List, [], ◌∷◌, ◌++◌, None, refl}
use Rattle.std.proofs.Common.{ap, ◌∙◌}
use Rattle.heartbeat.specs.Beats.{Event, History, Times, heard, ticked, beat, is_over}
use Rattle.heartbeat.specs.Pulse.{pulse_of, pulse_heard, pulse_ticked}
use Rattle.heartbeat.specs.PulseLaws.{pulse_ticked-history}
use Rattle.beating.specs.Run.{said_behind, said_of, going_on, said_from}
use Rattle.beating.specs.Kept.{said, after, all_said, said_by}

-- what a heart keeps after an event
after-history : (times : Times) (past : History) (e : Event) → after (pulse_of times past) e ≡ pulse_of times (going_on times past e)
after-history times past (heard t) =
    elim (is_over times past) as (λ b. cond b (pulse_of times past) (pulse_heard (pulse_of times past) t) ≡ pulse_of times (cond b past (heard t ∷ past))) [
      | true ↦ refl
      | false ↦ refl
    ]
after-history times past (ticked t) =
    elim (is_over times past) as (λ b. is_over times past ≡ b →
    cond b (pulse_of times past) (pulse_ticked (pulse_of times past) t (beat times past t)) ≡ pulse_of times (cond b past (ticked t ∷ past))) [
      | true ↦ λ over. refl
      | false ↦ λ going. pulse_ticked-history times past t going
    ] refl

said-history : (times : Times) (past : History) (e : Event) → said (pulse_of times past) e ≡ said_behind times past e
said-history times past (heard t) = refl
said-history times past (ticked t) = refl

pub all_said-history : (times : Times) (past : History) (events : List Event) → all_said (pulse_of times past) events ≡ said_of times past events
all_said-history times past [] = refl
all_said-history times past (e ∷ events) =
    ap (λ s. s ++ all_said (after (pulse_of times past) e) events) (said-history times past e)
    ∙ ap (λ p. said_behind times past e ++ all_said p events) (after-history times past e)
    ∙ ap (λ s. said_behind times past e ++ s) (all_said-history times (going_on times past e) events)

pub said_by-history : (interval timeout : ℕ) (events : List Event) → said_by interval timeout None events ≡ said_from interval timeout events
said_by-history interval timeout [] = refl
said_by-history interval timeout (e ∷ events) = all_said-history _ [] (e ∷ events)
