use Rattle.world_values_laws.specs.MomentValues.{moments_are_kept}
use Rattle.world_values_laws.proofs.stores_of_values_keep_values.Goals as goal

pub returns : goal.returns
returns c = moments_are_kept
