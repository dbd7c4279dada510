use Rattle.std.specs.Prelude.{◌≡◌, true}
use Rattle.rounds_model.specs.TowerLaws as laws
use Rattle.rounds_model.proofs.steps_end_at_the_tower.Goals as goal

pub returns : goal.returns
returns g c = λ is_kept stuck ms f l n w p s. laws.steps_end_at_the_tower (λ w. is_kept w ≡ true) stuck ms f l n w p s
