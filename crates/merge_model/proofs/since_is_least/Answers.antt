use Rattle.merge_model.specs.SinceLaws as laws
use Rattle.merge_model.proofs.since_is_least.Goals as goal

pub returns : goal.returns
returns g c = λ holds past now. laws.since_is_least holds past now
