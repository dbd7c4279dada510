use Rattle.std.specs.Prelude.{◌≡◌, true}
use Rattle.rounds_model.specs.TowerLaws as laws
use Rattle.rounds_model.proofs.towers_end.Goals as goal

pub returns : goal.returns
returns g c = record {
  stuck = λ is_kept stuck ms f l w p. laws.tower_is_stuck (λ w. is_kept w ≡ true) stuck ms f l w p;
  kept = λ is_kept stuck ms f l w p. laws.tower_keeps (λ w. is_kept w ≡ true) stuck ms f l w p;
}
