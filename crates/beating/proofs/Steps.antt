-- What an event of a run writes, and what those behind it do.
use Rattle.std.proofs.Common.{◌≡◌, ℕ, List, [], ◌∷◌, ◌++◌, Option, Some, refl, ap, sym, ◌∙◌}
use Rattle.std.proofs.lemmas.Grind.{flat_map-append}
use Rattle.std.proofs.lemmas.List.{append_assoc}
use Rattle.heartbeat.specs.Beats.{Event}
use Rattle.heartbeat.specs.Pulse.{Pulse}
use Rattle.checking.specs.Output.{bytes_of, value_bytes}
use Rattle.beating.specs.Kept.{said, after, all_said, begun, said_by}

said_by_some : (interval timeout : ℕ) (p : Pulse) (events : List Event) → said_by interval timeout (Some p) events ≡ all_said p events
said_by_some interval timeout p [] = refl
said_by_some interval timeout p (e ∷ events) = refl

-- what an event writes, and what those behind it do
pub said_by_event : (interval timeout : ℕ) (heart : Option Pulse) (e : Event) (events : List Event) →
    bytes_of (said_by interval timeout heart (e ∷ events))
    ≡ bytes_of (said (begun interval timeout heart e) e) ++ bytes_of (said_by interval timeout (Some (after (begun interval timeout heart e) e)) events)
said_by_event interval timeout heart e events =
    let p = begun interval timeout heart e in
    flat_map-append value_bytes (said p e) (all_said (after p e) events)
    ∙ ap (λ vs. bytes_of (said p e) ++ bytes_of vs) (sym (said_by_some interval timeout (after p e) events))

-- the whole output stays the same as an event's part of it is written
pub written_event : (interval timeout : ℕ) (heart : Option Pulse) (p : Pulse) (now before whole : List ℕ) (all events : List Event) (e : Event) →
    all ≡ e ∷ events → p ≡ after (begun interval timeout heart e) e → now ≡ before ++ bytes_of (said (begun interval timeout heart e) e) →
    before ++ bytes_of (said_by interval timeout heart all) ≡ whole → now ++ bytes_of (said_by interval timeout (Some p) events) ≡ whole
written_event interval timeout heart p now before whole all events e is_all is_p is_now invariant =
    let q = begun interval timeout heart e in
    ap (λ b. b ++ bytes_of (said_by interval timeout (Some p) events)) is_now
    ∙ (ap (λ r. (before ++ bytes_of (said q e)) ++ bytes_of (said_by interval timeout (Some r) events)) is_p
    ∙ (append_assoc before (bytes_of (said q e)) (bytes_of (said_by interval timeout (Some (after q e)) events))
    ∙ (ap (λ b. before ++ b) (sym (said_by_event interval timeout heart e events))
    ∙ (ap (λ es. before ++ bytes_of (said_by interval timeout heart es)) (sym is_all) ∙ invariant))))
