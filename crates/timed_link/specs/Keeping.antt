-- Calls of a timed link one after another, and that they keep time.
use Rattle.std.specs.Prelude.{◌≡◌}
use Rattle.heartbeat.specs.Beats.{Times, History}
use Rattle.heartbeat.specs.Pulse.{pulse_of}
use Rattle.timed_link.specs.Watch.{Watch}
use Rattle.timed_link.specs.Times.{GivesUp}

-- ---- the history of the heart

-- what is so of a heart that has this history
pub record Knows (times : Times) (past : History) (w : Watch) : Type 0 where
  pub heart : w.heart ≡ pulse_of times past
  pub ends : GivesUp times past w.given_up
