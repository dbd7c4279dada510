use Rattle.value_model.specs.OrderLaws.{compare_reverse}
use Rattle.value_model.proofs.comparing_is_antisymmetric.Goals as goal

pub returns : goal.returns
returns c = compare_reverse
