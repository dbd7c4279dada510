use Rattle.heartbeat.specs.Clocks.{last_moment}
use Rattle.heartbeat.proofs.Telling.{told_again}
use Rattle.heartbeat.proofs.step_clock.StepClockClock.now.Goals as goal

pub returns-clause-told : goal.returns-clause-told
returns-clause-told c =
    rw (c.saturating_mul-answer.ensures, ← c.self.view_is)
    (λ now told. told_again last_moment c.self.inside.step c.self.inside.asked c.saturating_add-self-inside.result now c.saturating_add-self-inside.ensures told)
