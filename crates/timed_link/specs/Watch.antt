-- A heart that watches a link.
use Rattle.std.specs.Prelude.{◌≡◌, ℕ, zero, ◌+◌, List, [], ◌∷◌, Option, Some, None}
use Rattle.duct.specs.declared.link.Polled.TheVariants.{Message, Quiet}
use Rattle.heartbeat.specs.declared.heart.Beat.{Beat}
use Rattle.heartbeat.specs.declared.heart.Beat.TheVariants.{Ping, Close}
use Rattle.heartbeat.specs.Pulse.{Pulse, pulse_heard, pulse_beat, pulse_ticked}
use Rattle.timed_link.specs.Acts.{Act, polled}

pub record Watch : Type 0 where
  pub heart : Pulse
  -- where the heart gave the peer up: the moment of the `ping` that no text came behind, and that of the end
  pub given_up : Option (ℕ × ℕ)

-- the two moments at which a beat gives the peer up
abbrev pub given_up_by : Beat → Option (ℕ × ℕ)
given_up_by (Close asked now) = Some (asked, now)
given_up_by beat = None

-- how many a `ping` a beat asks for
abbrev pub pings_by : Beat → ℕ
pings_by Ping = 1
pings_by beat = 0

-- it was asked what to do
abbrev pub ticked : Pulse → ℕ → Pulse
ticked heart t = pulse_ticked heart t (pulse_beat heart t)

-- what an act makes of it: a text that came is heard, and behind a poll that gave a text, or none, the heart is asked what to do
abbrev pub after : Watch → Act → Watch
after w (polled t (Message text)) = record { heart = ticked (pulse_heard w.heart t) t; given_up = given_up_by (pulse_beat (pulse_heard w.heart t) t) }
after w (polled t Quiet) = record { heart = ticked w.heart t; given_up = given_up_by (pulse_beat w.heart t) }
after w act = w

abbrev pub all_after : Watch → List Act → Watch
all_after w [] = w
all_after w (act ∷ acts) = all_after (after w act) acts

-- how often the heart asks for a `ping`
abbrev pub one_due : Watch → Act → ℕ
one_due w (polled t (Message text)) = pings_by (pulse_beat (pulse_heard w.heart t) t)
one_due w (polled t Quiet) = pings_by (pulse_beat w.heart t)
one_due w act = 0

abbrev pub pings_due : Watch → List Act → ℕ
pings_due w [] = zero
pings_due w (act ∷ acts) = one_due w act + pings_due (after w act) acts

-- the link is polled only while the peer is not given up
abbrev pub MayAct : Watch → Act → Type 0
MayAct w (polled t answer) = w.given_up ≡ None
MayAct w act = Unit {0}

abbrev pub MayAll : Watch → List Act → Type 0
MayAll w [] = Unit {0}
MayAll w (act ∷ acts) = MayAct w act × MayAll (after w act) acts
