use Rattle.world_model.specs.StoreLaws.{view-value_of}
use Rattle.world_model.proofs.laws.values_are_seen_as_they_are.Goals as goal

pub returns : goal.returns
returns c = view-value_of
