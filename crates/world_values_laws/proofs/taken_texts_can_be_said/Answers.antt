use Rattle.world_values_laws.specs.TakenValuesLaws.{taken_is}
use Rattle.world_values_laws.proofs.taken_texts_can_be_said.Goals as goal

pub returns : goal.returns
returns c = taken_is
