use Rattle.world_values_laws.specs.ModifierValuesLaws.{read_modification}
use Rattle.world_values_laws.proofs.modifiers_of_values_put_values.Goals as goal

pub returns : goal.returns
returns c = read_modification
