use Rattle.std.specs.Prelude.{◌≡◌, true}
use Rattle.rounds_model.specs.RoundLaws as laws
use Rattle.rounds_model.proofs.rounds_lead_on.Goals as goal

pub returns : goal.returns
returns g c = λ is_kept can done ms acts phases. laws.round_leads (λ w. is_kept w ≡ true) can done ms acts phases
