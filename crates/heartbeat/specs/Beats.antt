-- When an end of a link asks whether its peer is there, and when it gives the peer up. Either end may send `ping`, which the
-- other answers by `pong` (Meteor's DDP.md, "Heartbeats"). The standard leaves open when. This is our own choice: a `ping` after
-- an interval without a text, the end after a further time without one, and moments that are handed in.
use Rattle.std.specs.Prelude.{ℕ, ◌-◌, ◌≤◌, nat_le, max, List, [], ◌∷◌, Bool, true, false, ◌||◌, Option, Some, None, if◌then◌else◌}
use Rattle.heartbeat.specs.declared.heart.Beat.{Beat}
use Rattle.heartbeat.specs.declared.heart.Beat.TheVariants.{Nothing, Ping, Close}

-- how long a time may be, in milliseconds: a day
abbrev pub longest : ℕ
longest = 86400000

pub record IsTime (time : ℕ) : Type 0 where
  pub some : 1 ≤ time
  pub within : time ≤ longest

-- how long a link may be quiet before a `ping`, how long behind the `ping`, and when all begins
pub record Times : Type 0 where
  pub interval : ℕ
  pub timeout : ℕ
  pub start : ℕ

-- a text came, or it was asked what to do, each with the moment that was handed in
pub data Event : Type 0 where
  heard : ℕ → Event
  ticked : ℕ → Event

-- what happened so far, the latest first
abbrev pub History : Type 0
History = List Event

abbrev pub handed : Event → ℕ
handed (heard t) = t
handed (ticked t) = t

-- the moment of the latest event: the greatest that was handed in so far, so that a clock that goes back lowers nothing
abbrev pub moment : Times → History → ℕ
moment times [] = times.start
moment times (event ∷ past) = max (handed event) (moment times past)

-- the moment of the last text, of the start where none came
abbrev pub quiet_since : Times → History → ℕ
quiet_since times [] = times.start
quiet_since times (heard t ∷ past) = moment times (heard t ∷ past)
quiet_since times (ticked t ∷ past) = quiet_since times past

-- what to do now, by the interval and the timeout, the moment of the `ping` that no text came behind, and that of the last text
abbrev pub beat_at : ℕ → ℕ → Option ℕ → ℕ → ℕ → Beat
beat_at interval timeout (Some pinged) since now = if nat_le timeout (now - pinged) then Close pinged now else Nothing
beat_at interval timeout None since now = if nat_le interval (now - since) then Ping else Nothing

-- the moment of the outstanding `ping` behind a tick that answered so
abbrev pub pinged_by : Beat → ℕ → Option ℕ → Option ℕ
pinged_by Ping now pinged = Some now
pinged_by _ now pinged = pinged

-- the moment of the `ping` that no text came behind
abbrev pub outstanding : Times → History → Option ℕ
outstanding times [] = None
outstanding times (heard t ∷ past) = None
outstanding times (ticked t ∷ past) =
    let now = max t (moment times past) in
    pinged_by (beat_at times.interval times.timeout (outstanding times past) (quiet_since times past) now) now (outstanding times past)

-- what a tick behind these events answers
abbrev pub beat : Times → History → ℕ → Beat
beat times past t = beat_at times.interval times.timeout (outstanding times past) (quiet_since times past) (max t (moment times past))

abbrev pub closes : Beat → Bool
closes (Close pinged now) = true
closes _ = false

-- whether some tick answered that the link is at its end
abbrev pub is_over : Times → History → Bool
is_over times [] = false
is_over times (heard t ∷ past) = is_over times past
is_over times (ticked t ∷ past) = closes (beat times past t) || is_over times past
