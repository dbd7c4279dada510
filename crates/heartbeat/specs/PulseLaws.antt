-- What a heart keeps is what its history comes to.
use Rattle.std.specs.Prelude.{◌≡◌, ℕ, ◌∷◌, Bool, true, false, ◌||◌, refl}
use Rattle.std.proofs.Common.{sym, ap, ◌∙◌}
use Rattle.heartbeat.specs.Beats.{Times, History, ticked, beat, closes, is_over, pinged_by, outstanding, quiet_since, moment}
use Rattle.heartbeat.specs.Pulse.{Pulse, pulse_of, pulse_ticked}

or_false : (b : Bool) → (b || false) ≡ b
or_false true = refl
or_false false = refl

pub pulse_ticked-history : (times : Times) (past : History) (t : ℕ) → is_over times past ≡ false →
    pulse_ticked (pulse_of times past) t (beat times past t) ≡ pulse_of times (ticked t ∷ past)
pulse_ticked-history times past t going =
    let same : closes (beat times past t) ≡ (closes (beat times past t) || is_over times past) =
    sym (ap (λ over. closes (beat times past t) || over) going ∙ or_false (closes (beat times past t))) in
    ap (λ over. let p : Pulse = record (pulse_of times (ticked t ∷ past)) { is_over = over } in p) same
