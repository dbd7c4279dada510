-- What a heart keeps of its history, and how an event changes it.
use Rattle.std.specs.Prelude.{ℕ, max, Bool, true, false, Option, Some, None}
use Rattle.heartbeat.specs.declared.heart.Beat.{Beat}
use Rattle.heartbeat.specs.declared.heart.Beat.TheVariants.{Close}
use Rattle.heartbeat.specs.Beats.{Times, History, Event, moment, quiet_since, outstanding, is_over, beat_at, pinged_by, closes}

pub record Pulse : Type 0 where
  pub interval : ℕ
  pub timeout : ℕ
  -- the greatest moment so far
  pub latest : ℕ
  -- the moment of the last text, of the start where none came
  pub since : ℕ
  -- the moment of the outstanding `ping`
  pub pinged : Option ℕ
  pub is_over : Bool

-- what is kept of a history
abbrev pub pulse_of : Times → History → Pulse
pulse_of times past = record {
  interval = times.interval;
  timeout = times.timeout;
  latest = moment times past;
  since = quiet_since times past;
  pinged = outstanding times past;
  is_over = is_over times past;
}

-- the moment at which t is handed in
abbrev pub moment_at : Pulse → ℕ → ℕ
moment_at p t = max t p.latest

-- once a text came
abbrev pub pulse_heard : Pulse → ℕ → Pulse
pulse_heard p t = record p { latest = moment_at p t; since = moment_at p t; pinged = None }

-- what a tick answers
abbrev pub pulse_beat : Pulse → ℕ → Beat
pulse_beat p t = beat_at p.interval p.timeout p.pinged p.since (moment_at p t)

-- once a tick answered so
abbrev pub pulse_ticked : Pulse → ℕ → Beat → Pulse
pulse_ticked p t answer = record p { latest = moment_at p t; pinged = pinged_by answer (moment_at p t) p.pinged; is_over = closes answer }
